-- The first line feed of bytes.
use Rattle.std.proofs.Common.{◌≡◌, ◌∙◌, ℕ, zero, suc, ◌+◌, ◌<◌, ◌≤◌, Bool, true, false, List, [], ◌∷◌, ◌++◌, Option, None, Some, refl, ap, arith, inl, inr, nat_lt, length, take, get_or, ltb-true, eqb-true, add-one, not, cond}
use Rattle.std.proofs.lemmas.Bool.{cases_lt, lt-ltb}
use Rattle.std.proofs.lemmas.List.{take_all, take_more}
use Rattle.std.proofs.lemmas.List.Sums.{count_by_more_no, fails_before_first, passes_at_first, prefix_len-le-length, sum_by-append, sum_by-cons}
use Rattle.std.specs.Prelude.{IfSome}
use Rattle.std.specs.List.{position, position_or_len}
use Rattle.apex_incoming.specs.Ahead.{IsFirstLine}
use Rattle.apex_incoming.specs.Lines.{IsOneLine, ended, is_line_feed, line_feeds}

-- the first n bytes before the first line feed have none
before_first_feed : (n : ℕ) (xs : List ℕ) → n ≤ position_or_len is_line_feed xs → IsOneLine (take n xs)
before_first_feed zero xs few = refl
before_first_feed (suc n) xs few =
    let at : n < position_or_len is_line_feed xs = omega (arith, few) in
    let within : n < length xs = omega (arith, at, prefix_len-le-length (λ x. not (is_line_feed x)) xs) in
    let more = count_by_more_no is_line_feed xs n 0 within (fails_before_first is_line_feed xs n 0 at) in
    rw (add-one n) at more ∙ before_first_feed n xs (omega (arith, few))

place_found : (xs : List ℕ) (i : ℕ) → position is_line_feed xs ≡ Some i
    → (position_or_len is_line_feed xs ≡ i) × (position_or_len is_line_feed xs < length xs)
place_found xs i found = go (nat_lt (position_or_len is_line_feed xs) (length xs)) refl
  where
    go : (b : Bool) → nat_lt (position_or_len is_line_feed xs) (length xs) ≡ b
        → (position_or_len is_line_feed xs ≡ i) × (position_or_len is_line_feed xs < length xs)
    go true t =
        let here : Some (position_or_len is_line_feed xs) ≡ Some i = rw t at found in
        (cc, ltb-true _ _ t)
    go false t =
        let nowhere : None ≡ Some i = rw t at found in
        cc

-- the first line is the part before the first line feed
pub first_feed : (xs : List ℕ) (i : ℕ) → position is_line_feed xs ≡ Some i
    → IsOneLine (take i xs) × (take (i + 1) xs ≡ ended (take i xs)) × (i < length xs)
first_feed xs i found =
    let (place, within) = place_found xs i found in
    let short : i < length xs = rw place at within in
    let passes = passes_at_first {X = ℕ} is_line_feed xs 0 within in
    let feed : get_or xs i 0 ≡ 10 = eqb-true _ _ (rw place at passes) in
    let whole : take (i + 1) xs ≡ take i xs ++ 10 ∷ [] = take_more xs i 0 short ∙ ap (λ b. take i xs ++ b ∷ []) feed in
    (before_first_feed i xs (omega (arith, place)), whole, short)

pub first_line : (xs : List ℕ) → IfSome (position is_line_feed xs) (λ end. IsFirstLine end xs)
first_line xs = go (position is_line_feed xs) refl
  where
    go : (o : Option ℕ) → position is_line_feed xs ≡ o → IfSome o (λ end. IsFirstLine end xs)
    go None e = tt
    go (Some i) e = first_feed xs i e

-- bytes without a line feed
pub no_feed : (xs : List ℕ) → position is_line_feed xs ≡ None → IsOneLine xs
no_feed xs none = elim (cases_lt (position_or_len is_line_feed xs) (length xs)) [
  | inl within ↦
      let some : Some (position_or_len is_line_feed xs) ≡ None = rw (lt-ltb _ _ within) at none in
      cc
  | inr past ↦
      let before : IsOneLine (take (length xs) xs) = before_first_feed (length xs) xs past in
      rw (take_all (length xs) xs (omega arith)) at before
]

-- ---- line feeds of texts

pub feeds_append : (xs ys : List ℕ) → line_feeds (xs ++ ys) ≡ line_feeds xs + line_feeds ys
feeds_append xs ys = sum_by-append (λ x. cond (is_line_feed x) 1 0) xs ys

pub feeds_cons : (x : ℕ) (xs : List ℕ) → line_feeds (x ∷ xs) ≡ cond (is_line_feed x) 1 0 + line_feeds xs
feeds_cons x xs = sum_by-cons (λ x. cond (is_line_feed x) 1 0) x xs

pub feeds_ended : (line : List ℕ) → line_feeds (ended line) ≡ line_feeds line + 1
feeds_ended line = feeds_append line (10 ∷ [])

pub one_line_append : (xs ys : List ℕ) → IsOneLine xs → IsOneLine ys → IsOneLine (xs ++ ys)
one_line_append xs ys p q = omega (arith, feeds_append xs ys, p, q)

-- a line feed counts
pub some_feed : (y : ℕ) (ys : List ℕ) → y ≡ 10 → line_feeds (y ∷ ys) ≡ 1 + line_feeds ys
some_feed y ys e = rw e (feeds_cons 10 ys)

-- two texts that are the same have the same first line
pub same_first : (xs ys us vs : List ℕ) → IsOneLine xs → IsOneLine ys → xs ++ (10 ∷ us) ≡ ys ++ (10 ∷ vs)
    → (xs ≡ ys) × (us ≡ vs)
same_first [] [] us vs p q e = (refl, cc)
same_first [] (y ∷ ys) us vs p q e =
    let feed : y ≡ 10 = cc in
    absurd (omega (arith, q, some_feed y ys feed))
same_first (x ∷ xs) [] us vs p q e =
    let feed : x ≡ 10 = cc in
    absurd (omega (arith, p, some_feed x xs feed))
same_first (x ∷ xs) (y ∷ ys) us vs p q e =
    let head : x ≡ y = cc in
    let tail : xs ++ (10 ∷ us) ≡ ys ++ (10 ∷ vs) = cc in
    let rest = same_first xs ys us vs (omega (arith, p, feeds_cons x xs)) (omega (arith, q, feeds_cons y ys)) tail in
    (cc, rest.1)
