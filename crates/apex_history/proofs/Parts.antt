-- The parts of a list round the first separator.
use Rattle.std.proofs.Common.{◌≡◌, ℕ, ◌+◌, ◌-◌, Bool, true, false, refl, arith, List, [], ◌∷◌, length, take, drop, Some, None, nat_lt, ltb-true}
use Rattle.std.specs.List.{position, position_or_len, slice_split}
use Rattle.std.proofs.lemmas.List.{take_rest}
use Rattle.std.proofs.lemmas.List.Splits.{slice_split_first, slice_split_none}
use Rattle.std.proofs.lemmas.List.Sums.{fails_before_first}

-- the parts, if the first separator is at i; the rest is a range of the list
pub split_at_first : (p : ℕ → Bool) (xs : List ℕ) (i : ℕ) → position p xs ≡ Some i
    → slice_split p xs ≡ take i xs ∷ slice_split p (take (length xs - (i + 1)) (drop (i + 1) xs))
split_at_first p xs i found = rw take_rest (go (nat_lt (position_or_len p xs) (length xs)) refl)
  where
    go : (b : Bool) → nat_lt (position_or_len p xs) (length xs) ≡ b
        → slice_split p xs ≡ take i xs ∷ slice_split p (drop (i + 1) xs)
    go true t =
        let here : Some (position_or_len p xs) ≡ Some i = rw t at found in
        let place : position_or_len p xs ≡ i = cc in
        rw (← place) (slice_split_first p xs 0 (ltb-true _ _ t))
    go false t =
        let nowhere : None ≡ Some i = rw t at found in
        cc

-- the one part, if there is no separator
pub split_at_none : (p : ℕ → Bool) (xs : List ℕ) → position p xs ≡ None → slice_split p xs ≡ xs ∷ []
split_at_none p xs found = go (nat_lt (position_or_len p xs) (length xs)) refl
  where
    go : (b : Bool) → nat_lt (position_or_len p xs) (length xs) ≡ b → slice_split p xs ≡ xs ∷ []
    go true t =
        let here : Some (position_or_len p xs) ≡ None = rw t at found in
        cc
    go false t = slice_split_none p xs (λ k d below. fails_before_first p xs k d (grind arith))
