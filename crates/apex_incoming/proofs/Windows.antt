-- The bytes of a window, after a write behind its end or a step of its start.
use Rattle.std.proofs.Common.{◌≡◌, ◌∙◌, ℕ, ◌+◌, ◌-◌, ◌≤◌, List, ◌++◌, sym, refl, ap, arith, length, take, drop, append-nil, append_assoc, Option, None, Some}
use Rattle.std.specs.Io.KnownBytes.{Consumes, Keeps, prepend_known}
use Rattle.std.specs.List.{copy_within, slice_range}
use Rattle.std.proofs.lemmas.List.Edits.{take-paste}
use Rattle.std.proofs.lemmas.List.{take_at, drop_at, take-append-le, drop-append-le, drop-take, drop-drop, length-take-le, length-drop}
use borrow.Rule.Slice.PartMut.{put_mid, post_of}
use lib.Seq.{take-add}

-- n of the bytes that were written behind the end are more of the window
pub grown : (xs ys : List ℕ) (start end k n : ℕ) → start ≤ end → end ≤ length xs → n ≤ length ys
    → slice_range (put_mid end k xs ys) start (end + n) ≡ slice_range xs start end ++ take n ys
grown xs ys start end k n ordered within fits =
    let front = length-take-le end xs within in
    let held = drop start (take end xs) in
    let long : length held ≡ end - start = omega (arith, length-drop start (take end xs)) in
    let sum : end + n - start ≡ (end - start) + n = omega arith in
    let parts : end ≡ start + (end - start) = omega arith in
    let same : held ≡ take (end - start) (drop start xs) = ap (λ j. drop start (take j xs)) parts ∙ drop-take start (end - start) xs in
    let after = ys ++ post_of end k xs in
    ap (take (end + n - start)) (drop-append-le start (take end xs) after (omega arith))
    ∙ ap (λ j. take j (held ++ after)) sum ∙ take-add (end - start) n (held ++ after)
    ∙ (rw (take_at held after _ long, drop_at held after _ long, take-append-le n ys (post_of end k xs) fits, same) refl)

-- the window itself stays
pub kept : (xs ys : List ℕ) (start end k : ℕ) → start ≤ end → end ≤ length xs
    → slice_range (put_mid end k xs ys) start end ≡ slice_range xs start end
kept xs ys start end k ordered within =
    let none : end ≡ end + 0 = omega arith in
    ap (slice_range (put_mid end k xs ys) start) none ∙ grown xs ys start end k 0 ordered within (omega arith) ∙ append-nil _

-- bytes are taken from the front
pub taken : (xs : List ℕ) (start end count : ℕ) → start + count ≤ end
    → slice_range xs (start + count) end ≡ drop count (slice_range xs start end)
taken xs start end count inside =
    let parts : end - start ≡ count + (end - (start + count)) = omega arith in
    sym (ap (λ j. drop count (take j (drop start xs))) parts ∙ drop-take count _ (drop start xs)
    ∙ ap (take (end - (start + count))) (drop-drop count start xs))

pub length_of : (xs : List ℕ) (start end : ℕ) → start ≤ end → end ≤ length xs → length (slice_range xs start end) ≡ end - start
length_of xs start end ordered within = length-take-le (end - start) (drop start xs) (omega (arith, within, length-drop start xs))

-- the window is moved to the front
pub moved : (xs ys : List ℕ) (start end : ℕ) → end ≤ length xs → ys ≡ copy_within xs start end 0
    → slice_range ys 0 (end - start) ≡ slice_range xs start end
moved xs ys start end within is =
    let n = end - start in
    let whole : n - 0 ≡ 0 + n = omega arith in
    ap (λ k. take k ys) whole ∙ ap (λ (l : List ℕ). take (0 + n) l) is
    ∙ take-paste xs 0 (drop start xs) n (omega arith) (omega (arith, within, length-drop start xs))

-- the bytes that are known, after some of those that were left came behind the window
pub came : (old new more : List ℕ) (left rest : Option (List ℕ)) → new ≡ old ++ more → Consumes left rest more
    → Keeps (prepend_known old left) (prepend_known new rest)
came old new more None rest is taken = tt
came old new more (Some xs) None is taken = absurd taken
came old new more (Some xs) (Some ys) is taken =
    ap (λ (l : List ℕ). l ++ ys) is ∙ append_assoc old more ys ∙ ap (λ (l : List ℕ). old ++ l) (sym taken)
