-- Rows of words, each once, as contracts see them and as they are kept.
use Rattle.std.specs.Prelude.{◌≡◌, ℕ, ◌+◌, ◌*◌, ◌^◌, ◌<◌, ◌≤◌, List, [], ◌∷◌, ◌++◌, length, slice_get, Option, Some}
use Rattle.apex_states.specs.declared.registers.Entered.{Entered}
use Rattle.apex_states.specs.declared.registers.Entered.TheVariants.{Known, New, Full}
use Rattle.apex_states.specs.Index.{IsIndexed, IsKnown}
use Rattle.apex_states.specs.Rows.{Packed}

-- no row is at two places
abbrev pub AreApart : List (List ℕ) → Type 0
AreApart rows = (first second : ℕ) (k : List ℕ)
    → slice_get rows first ≡ Some k → slice_get rows second ≡ Some k → first ≡ second

-- the rows are apart and indexed, a cell is vacant, and the index has memory for as many cells as all
-- rows need that there is room for
pub record IsRegistered (rows : Packed) (cells : List (Option ℕ)) (memory : ℕ) : Type 0 where
  pub apart : AreApart rows.rows
  pub indexed : IsIndexed cells rows.rows
  pub vacant : length rows.rows < length cells
  pub enough : 2 * rows.room + 1 ≤ memory
  pub within : length rows.rows ≤ rows.room
  pub few : rows.room < 2 ^ 32

-- the row is put after the others
abbrev pub with_row : Packed → List ℕ → Packed
with_row old k = record old { rows = old.rows ++ k ∷ [] }

-- a row that is there already has its number, and a new one is put after the others, unless there is
-- no room
abbrev pub IsEntered : Packed → List ℕ → Entered → Packed → Type 0
IsEntered old k (Known number) new = (slice_get old.rows number ≡ Some k) × (new ≡ old)
IsEntered old k (New number) new =
    (IsKnown old.rows k → ⊥) × (number ≡ length old.rows) × (length old.rows < old.room)
    × (new ≡ with_row old k)
IsEntered old k Full new =
    (IsKnown old.rows k → ⊥) × (length old.rows ≡ old.room) × (new ≡ old)

-- the rows are the same, and there is room for one more
pub record IsGrown (old new : Packed) : Type 0 where
  pub rows : new.rows ≡ old.rows
  pub width : new.width ≡ old.width
  pub room : length new.rows < new.room
