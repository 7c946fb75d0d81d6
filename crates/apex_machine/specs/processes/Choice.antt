-- The one record that passes a test and comes before every other that does: a minimum over all
-- records.
use Rattle.std.specs.Prelude.{◌≡◌, ◌≢◌, ℕ, Bool, true, List, Option, Some, slice_get, ◌&&◌, not, position}
use Rattle.std.specs.List.{list_any}
use Rattle.apex_machine.specs.Terms.{Record}

-- a record that passes comes before r
abbrev pub is_preceded : (Record → Bool) → (Record → Record → Bool) → List Record → Record → Bool
is_preceded passes before rs r = list_any (λ s. passes s && before s r) rs

-- the first place whose record passes and before which no record that passes comes
abbrev pub place_of_least : (Record → Bool) → (Record → Record → Bool) → List Record → Option ℕ
place_of_least passes before rs =
    position (λ r. passes r && not (is_preceded passes before rs r)) rs

-- the record r at place p passes, and is before every other one that passes
pub record IsLeast (passes : Record → Bool) (before : Record → Record → Bool) (rs : List Record)
    (p : ℕ) (r : Record) : Type 0 where
  pub here : slice_get rs p ≡ Some r
  pub passing : passes r ≡ true
  pub first : (q : ℕ) (s : Record) → slice_get rs q ≡ Some s → passes s ≡ true → q ≢ p
      → before r s ≡ true
