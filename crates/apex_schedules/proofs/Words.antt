-- The first word of a text with groups.
use Rattle.std.proofs.Common.{◌≡◌, ◌∙◌, ℕ, suc, ◌+◌, ◌-◌, ◌<◌, ◌==◌, ◌||◌, Bool, true, false, refl, ap, arith, List, [], ◌∷◌, length, drop, take, eqb-true}
use Rattle.std.specs.List.{onto_first, position_or_len}
use Rattle.std.specs.Prelude.{slice_index}
use Rattle.std.proofs.lemmas.Bool.{ne_eqb}
use Rattle.std.proofs.lemmas.List.{take_rest}
use Rattle.apex_schedules.specs.Groups.{filled, is_boundary, is_gap, words}

-- the rest of a text from its first boundary on begins with an empty word, and the words before and
-- behind that one are those of the text
abbrev IsCut : List ℕ → ℕ → Type 0
IsCut text n = (more : List (List ℕ)) × (words text ≡ take n text ∷ more) × (words (drop n text) ≡ [] ∷ more)

boundary_first : (byte : ℕ) (rest : List ℕ) → is_boundary byte ≡ true → IsCut (byte ∷ rest) 0
boundary_first byte rest ends = gap (is_gap byte) refl ends
  where
    close : (c : Bool) → (byte == 41) ≡ c → is_gap byte ≡ false → (byte == 40) ≡ false → c ≡ true → IsCut (byte ∷ rest) 0
    close true t g o e = (onto_first 41 (words rest), rw (g, o, t) refl, rw (g, o, t) refl)
    close false t g o e = absurd (cc e)

    open_ : (b : Bool) → (byte == 40) ≡ b → is_gap byte ≡ false → (b || byte == 41) ≡ true → IsCut (byte ∷ rest) 0
    open_ true t g e = ((40 ∷ []) ∷ words rest, rw (g, t) refl, rw (g, t) refl)
    open_ false t g e = close (byte == 41) refl g t e

    gap : (b : Bool) → is_gap byte ≡ b → (b || (byte == 40 || byte == 41)) ≡ true → IsCut (byte ∷ rest) 0
    gap true t e = (words rest, rw t refl, rw t refl)
    gap false t e = open_ (byte == 40) refl t e

pub plain_first : (byte : ℕ) (rest : List ℕ) → is_boundary byte ≡ false → words (byte ∷ rest) ≡ onto_first byte (words rest)
plain_first byte rest plain = gap (is_gap byte) refl plain
  where
    close : (c : Bool) → (byte == 41) ≡ c → is_gap byte ≡ false → (byte == 40) ≡ false → c ≡ false → words (byte ∷ rest) ≡ onto_first byte (words rest)
    close true t g o e = absurd (cc e)
    close false t g o e = rw (g, o, t) refl

    open_ : (b : Bool) → (byte == 40) ≡ b → is_gap byte ≡ false → (b || byte == 41) ≡ false → words (byte ∷ rest) ≡ onto_first byte (words rest)
    open_ true t g e = absurd (cc e)
    open_ false t g e = close (byte == 41) refl g t e

    gap : (b : Bool) → is_gap byte ≡ b → (b || (byte == 40 || byte == 41)) ≡ false → words (byte ∷ rest) ≡ onto_first byte (words rest)
    gap true t e = absurd (cc e)
    gap false t e = open_ (byte == 40) refl t e

one_more : (byte : ℕ) (rest : List ℕ) (n : ℕ) → is_boundary byte ≡ false → IsCut rest n → IsCut (byte ∷ rest) (1 + n)
one_more byte rest n plain (more, first, behind) =
    let next : 1 + n ≡ suc n = omega arith in
    (more, plain_first byte rest plain ∙ ap (onto_first byte) first ∙ rw next refl, rw next behind)

-- a text is cut at its first boundary
cut_at : (text : List ℕ) → IsCut text (position_or_len is_boundary text)
cut_at [] = ([], refl, refl)
cut_at (byte ∷ rest) = go (is_boundary byte) refl (cut_at rest)
  where
    go : (b : Bool) → is_boundary byte ≡ b → IsCut rest (position_or_len is_boundary rest) → IsCut (byte ∷ rest) (position_or_len is_boundary (byte ∷ rest))
    go true t later = rw t (boundary_first byte rest t)
    go false t later = rw t (one_more byte rest _ t later)

-- a word that begins with a byte that is no space, no line feed and no `(`
pub word_first : (byte : ℕ) (rest : List ℕ) → is_gap byte ≡ false → (byte == 40) ≡ false
    → filled (words (byte ∷ rest)) ≡ filled ((byte ∷ take (position_or_len is_boundary rest) rest) ∷ words (drop (position_or_len is_boundary rest) rest))
word_first byte rest gap bracket = go (byte == 41) refl (cut_at rest)
  where
    n : ℕ
    n = position_or_len is_boundary rest

    go : (c : Bool) → (byte == 41) ≡ c → IsCut rest n → filled (words (byte ∷ rest)) ≡ filled ((byte ∷ take n rest) ∷ words (drop n rest))
    go true t (more, first, behind) =
        let same : byte ≡ 41 = eqb-true byte 41 t in
        rw (gap, bracket, t, first, behind, same) refl
    go false t (more, first, behind) = rw (gap, bracket, t, first, behind) refl

-- a text without the gap that it begins with has the same words
pub gap_left : (byte : ℕ) (rest : List ℕ) → is_gap byte ≡ true → filled (words rest) ≡ filled (words (byte ∷ rest))
gap_left byte rest gap = rw gap refl

-- the same words behind a word
pub behind_word : (word : List ℕ) (one other : List (List ℕ)) → filled one ≡ filled other → filled (word ∷ one) ≡ filled (word ∷ other)
behind_word [] one other same = same
behind_word (byte ∷ rest) one other same = ap (λ l. (byte ∷ rest) ∷ l) same

-- any other first word
pub other_first : (text after : List ℕ) (n : ℕ) → 0 < length text → after ≡ take (length text - 1) (drop 1 text)
    → is_gap (slice_index text 0) ≡ false → ¬ (slice_index text 0 ≡ 40) → n ≡ position_or_len is_boundary after
    → filled (words text) ≡ filled (take (n + 1) text ∷ words (take (length text - (n + 1)) (drop (n + 1) text)))
other_first [] after n some rest gap bracket end = absurd (omega arith)
other_first (byte ∷ more) after n some rest gap bracket end =
    let left : after ≡ more = rest ∙ take_rest (byte ∷ more) 1 in
    let value : n ≡ position_or_len is_boundary more = end ∙ ap (position_or_len is_boundary) left in
    let next : n + 1 ≡ suc n = omega arith in
    rw (take_rest (byte ∷ more) (n + 1), next, value) (word_first byte more gap (ne_eqb byte 40 bracket))
