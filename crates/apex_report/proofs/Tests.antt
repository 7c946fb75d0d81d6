-- Tests that fail, and what is left of a step then.
use Rattle.std.proofs.Common.{◌≡◌, ℕ, ◌+◌, Bool, true, false, ◌&&◌, ◌||◌, if◌then◌else◌, List, [], ◌∷◌, refl, ap, ◌∙◌, arith}
use Rattle.std.specs.List.{count_by, list_any}
use Rattle.std.proofs.lemmas.Bool.{true≢false}
use Rattle.apex_report.specs.Steps.{one_if}
use Rattle.apex_report.proofs.ObjectGrowth.{count_cons}

pub plus_zero : (n : ℕ) → n + 0 ≡ n
plus_zero n = omega arith

pub or_left : (a b : Bool) → (a || b) ≡ false → a ≡ false
or_left true b fails = fails
or_left false b fails = refl

pub or_right : (a b : Bool) → (a || b) ≡ false → b ≡ false
or_right true b fails = absurd (true≢false fails)
or_right false b fails = fails

pub or_fails : (a b : Bool) → a ≡ false → b ≡ false → (a || b) ≡ false
or_fails true b first second = first
or_fails false b first second = second

pub left_fails : (a b : Bool) → a ≡ false → (a && b) ≡ false
left_fails true b fails = absurd (true≢false fails)
left_fails false b fails = refl

pub right_fails : (a b : Bool) → b ≡ false → (a && b) ≡ false
right_fails true b fails = fails
right_fails false b fails = refl

pub middle_fails : (a b c : Bool) → b ≡ false → (a && b && c) ≡ false
middle_fails a true c fails = absurd (true≢false fails)
middle_fails true false c fails = refl
middle_fails false false c fails = refl

pub each_of_three : (a b c : Bool) → (a || b || c) ≡ false → (a ≡ false) × (b ≡ false) × (c ≡ false)
each_of_three true b c fails = absurd (true≢false fails)
each_of_three false true c fails = absurd (true≢false fails)
each_of_three false false true fails = absurd (true≢false fails)
each_of_three false false false fails = (refl, refl, refl)

pub each_of_five : (a b c d e : Bool) → (a || b || c || d || e) ≡ false
    → (a ≡ false) × (b ≡ false) × (c ≡ false) × (d ≡ false) × (e ≡ false)
each_of_five true b c d e fails = absurd (true≢false fails)
each_of_five false true c d e fails = absurd (true≢false fails)
each_of_five false false true d e fails = absurd (true≢false fails)
each_of_five false false false true e fails = absurd (true≢false fails)
each_of_five false false false false true fails = absurd (true≢false fails)
each_of_five false false false false false fails = (refl, refl, refl, refl, refl)

pub none_more : (n : ℕ) (so : Bool) → so ≡ false → n + one_if so ≡ n
none_more n true fails = absurd (true≢false fails)
none_more n false fails = omega arith

pub no_units : (n : ℕ) (so : Bool) (units : ℕ) → so ≡ false → n + (if so then units else 0) ≡ n
no_units n true units fails = absurd (true≢false fails)
no_units n false units fails = omega arith

-- the second test fails where the first one does
module _ {X : Type 0} (wide narrow : X → Bool) (each : (x : X) → wide x ≡ false → narrow x ≡ false) where
  -- fails element passes the narrow test if none passes the wide one
  pub none_of : (xs : List X) → list_any wide xs ≡ false → list_any narrow xs ≡ false
  none_of [] fails = refl
  none_of (x ∷ xs) fails =
      or_fails (narrow x) (list_any narrow xs) (each x (or_left (wide x) (list_any wide xs) fails))
      (none_of xs (or_right (wide x) (list_any wide xs) fails))

  pub count_of_none : (xs : List X) → list_any wide xs ≡ false → count_by narrow xs ≡ 0
  count_of_none [] fails = refl
  count_of_none (x ∷ xs) fails =
      count_cons narrow x xs
      ∙ ap (λ so. one_if so + count_by narrow xs) (each x (or_left (wide x) (list_any wide xs) fails))
      ∙ omega (arith, count_of_none xs (or_right (wide x) (list_any wide xs) fails))
