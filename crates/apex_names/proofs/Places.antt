-- The first item that passes a test, found one by one.
use Rattle.std.proofs.Common.{◌≡◌, ◌∙◌, ℕ, ◌<◌, Bool, true, false, List, length, get_or, None, Some, refl, sym, ap, arith}
use Rattle.std.proofs.lemmas.Bool.{cond_above, cond_below}
use Rattle.std.proofs.lemmas.List.Sums.{position_or_len_is}
use Rattle.std.specs.List.{position, position_or_len}

module _ {X : Type 0} (p : X → Bool) (xs : List X) (d : X) where
  pub found_at : (i : ℕ) → i < length xs → ((k : ℕ) → k < i → p (get_or xs k d) ≡ false) → p (get_or xs i d) ≡ true
      → Some i ≡ position p xs
  found_at i within before here =
      let at : position_or_len p xs ≡ i = position_or_len_is p xs i d (omega (arith, within)) before (λ below. here) in
      ap Some (sym at) ∙ cond_below (position_or_len p xs) (length xs) (Some (position_or_len p xs)) None (omega (arith, at, within))

  pub found_nowhere : ((k : ℕ) → k < length xs → p (get_or xs k d) ≡ false) → None ≡ position p xs
  found_nowhere before =
      let past : position_or_len p xs ≡ length xs =
      position_or_len_is p xs (length xs) d (omega arith) before (λ below. absurd (omega (arith, below))) in
      cond_above (position_or_len p xs) (length xs) (Some (position_or_len p xs)) None None (omega (arith, past)) refl
