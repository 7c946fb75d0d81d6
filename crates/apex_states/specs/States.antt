-- The states that a search has reached, as contracts see them, and what is kept of them in memory.
use Rattle.std.specs.Prelude.{◌≡◌, ℕ, ◌+◌, ◌/◌, ◌%◌, ◌^◌, ◌⊎◌, Bool, true, false, List, [], ◌∷◌, ◌++◌, length, map, slice_get, Some}
use Rattle.apex_states.specs.declared.halves.Half.{Half}
use Rattle.apex_states.specs.declared.halves.Side.{Side}
use Rattle.apex_states.specs.declared.halves.Side.TheVariants.{Left, Right}
use Rattle.apex_states.specs.declared.states.Origin.{Origin}
use Rattle.apex_states.specs.Halves.{IsHalf, IsNumber, number_on, words_at}
use Rattle.apex_states.specs.Index.{IsKnown}
use Rattle.apex_states.specs.Lists.{AllAre}

-- how many words a state has, for how many states there is room, the states, and the origin of each
pub record Reached : Type 0 where
  pub width : ℕ
  pub room : ℕ
  pub states : List (List ℕ)
  pub origins : List Origin

-- no states yet
abbrev pub no_states : ℕ → ℕ → Reached
no_states width room = record { width = width; room = room; states = []; origins = [] }

-- the words of the state whose halves have the numbers of this row
abbrev pub state_of : Half → Half → List ℕ → List ℕ
state_of left right [] = []
state_of left right (pair ∷ _) = words_at left (pair / 2 ^ 32) ++ words_at right (pair % 2 ^ 32)

-- the states of these rows
abbrev pub states_in : Half → Half → List (List ℕ) → List (List ℕ)
states_in left right rows = map (state_of left right) rows

-- the row is the pair of the numbers of the state's halves
pub record IsRoot (left right : Half) (row state : List ℕ) : Type 0 where
  pub pair : ℕ
  pub front : List ℕ
  pub back : List ℕ
  pub row_is : row ≡ pair ∷ []
  pub front_is : IsNumber left (pair / 2 ^ 32) front
  pub back_is : IsNumber right (pair % 2 ^ 32) back
  pub whole : state ≡ front ++ back

-- the numbers are those on this side of the first rows, of which there are `count`
pub record IsSided (roots : Reached) (side : Side) (numbers : List ℕ) (count : ℕ) : Type 0 where
  pub count_is : length numbers ≡ count
  pub each : (at number : ℕ) → slice_get numbers at ≡ Some number
      → (pair : ℕ) × (slice_get roots.states at ≡ Some (pair ∷ []))
      × (number ≡ number_on side pair)

-- each row is that of a state
pub record IsStored (roots : Reached) (left right : Half) : Type 0 where
  pub left_half : IsHalf left
  pub right_half : IsHalf right
  pub left_side : left.side ≡ Left
  pub right_side : right.side ≡ Right
  pub middle : left.width ≡ (left.width + right.width) / 2
  pub valid : AllAre (λ row. (state : List ℕ) × IsRoot left right row state) roots.states

-- the states whose roots are kept
abbrev pub seen : Reached → Half → Half → Reached
seen roots left right = record {
  width = left.width + right.width;
  room = roots.room;
  states = states_in left right roots.states;
  origins = roots.origins;
}

-- the state is put after the others
abbrev pub with_state : Reached → List ℕ → Origin → Reached
with_state old k origin =
    record old { states = old.states ++ k ∷ []; origins = old.origins ++ origin ∷ [] }

-- a state that is there already is kept, and so is a new one, which is put after the others, unless
-- there is no room
abbrev pub IsKept : Reached → List ℕ → Origin → Bool → Reached → Type 0
IsKept old k origin true new =
    (IsKnown old.states k × (new ≡ old))
    ⊎ ((IsKnown old.states k → ⊥) × (new ≡ with_state old k origin))
IsKept old k origin false new =
    (IsKnown old.states k → ⊥) × (length old.states ≡ old.room) × (new ≡ old)
