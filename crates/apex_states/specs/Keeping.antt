-- States that were found, of which the halves are numbered.
use Rattle.std.specs.Prelude.{◌≡◌, ℕ, ◌/◌, ◌%◌, ◌^◌, List, [], ◌∷◌, length, map, slice_get, Option, Some}
use Rattle.apex_states.specs.declared.expansions.Expansion.{Expansion}
use Rattle.apex_states.specs.declared.halves.Half.{Half}
use Rattle.apex_states.specs.declared.states.Origin.{Origin}
use Rattle.apex_states.specs.Expansions.{found_in, IsWide}
use Rattle.apex_states.specs.Finds.{Found}
use Rattle.apex_states.specs.Halves.{IsHalf, IsNumber, part_of, width_on}
use Rattle.apex_states.specs.Lists.{AllAre}

-- the half of each state that was found in the expansions can be numbered
pub record CanNumberAll (half : Half) (expansions : List Expansion) : Type 0 where
  pub is_half : IsHalf half
  pub each : AllAre (λ (expansion : Expansion).
      half.width ≡ width_on half.side expansion.finds.width) expansions

-- what was found at the place of a number is that of the known half with that number
abbrev pub AreFound : Half → Half → List (Option ℕ) → Type 0
AreFound known half found = (number translated : ℕ) (k : List ℕ)
    → slice_get found number ≡ Some (Some translated)
    → IsNumber known number k → IsNumber half translated k

-- each number among these halves is that of the known half with the number at its place
pub record AreTranslated (known half : Half) (numbers among : List ℕ) : Type 0 where
  pub count : length among ≡ length numbers
  pub each : (place number translated : ℕ) (k : List ℕ) → slice_get numbers place ≡ Some number
      → slice_get among place ≡ Some translated
      → IsNumber known number k → IsNumber half translated k

-- the numbers are those of the halves of the states that were found
pub record AreNumbered (half : Half) (found : Found) (numbers : List ℕ) : Type 0 where
  pub count : length numbers ≡ length found.states
  pub each : (place number : ℕ) (k : List ℕ) → slice_get numbers place ≡ Some number
      → slice_get found.states place ≡ Some k
      → (length k ≡ found.width) × IsNumber half number (part_of half.side half.width k)

-- the numbers are those of the halves of the states that were found in the expansions
pub record AreAllNumbered (half : Half) (expansions : List Expansion) (numbers : List ℕ)
    : Type 0 where
  pub whole : (width : ℕ) → AllAre (IsWide width) expansions
      → AreNumbered half (found_in width expansions) numbers

-- each pair has the numbers at its place
pub record ArePaired (lefts rights pairs : List ℕ) : Type 0 where
  pub count : length pairs ≡ length lefts
  pub left : (place pair : ℕ) → slice_get pairs place ≡ Some pair
      → slice_get lefts place ≡ Some (pair / 2 ^ 32)
  pub right : (place pair : ℕ) → slice_get pairs place ≡ Some pair
      → slice_get rights place ≡ Some (pair % 2 ^ 32)

-- pairs in place of the states that come from these origins
abbrev pub roots_found : List ℕ → List Origin → Found
roots_found pairs origins =
    record { width = 1; states = map (λ pair. pair ∷ []) pairs; origins = origins }
