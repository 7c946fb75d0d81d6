-- States that are to be kept.
use Rattle.std.specs.Prelude.{◌≡◌, ℕ, ◌<◌, ◌≤◌, ◌⊎◌, Bool, true, false, List, [], ◌∷◌, ◌++◌, length, slice_get, Some}
use Rattle.apex_states.specs.declared.states.Origin.{Origin}
use Rattle.apex_states.specs.Index.{IsKnown}
use Rattle.apex_states.specs.Lists.{IsFront}
use Rattle.apex_states.specs.States.{Reached}

-- how many words a state has, the states, and the origin of each
pub record Found : Type 0 where
  pub width : ℕ
  pub states : List (List ℕ)
  pub origins : List Origin

-- states as if they were to be kept
abbrev pub found_of : Reached → Found
found_of reached =
    record { width = reached.width; states = reached.states; origins = reached.origins }

-- no states yet
abbrev pub no_finds : ℕ → Found
no_finds width = record { width = width; states = []; origins = [] }

-- the state is put behind the others
abbrev pub with_find : Found → List ℕ → Origin → Found
with_find old k origin =
    record old { states = old.states ++ k ∷ []; origins = old.origins ++ origin ∷ [] }

-- a state that is there already stays, and a new one is put behind the others
abbrev pub IsPut : Found → List ℕ → Origin → Found → Type 0
IsPut old k origin new =
    (IsKnown old.states k × (new ≡ old))
    ⊎ ((IsKnown old.states k → ⊥) × (new ≡ with_find old k origin))

-- the state that was found at this place, and its origin
pub record IsFind (found : Found) (place : ℕ) (k : List ℕ) (from : Origin) : Type 0 where
  pub state : slice_get found.states place ≡ Some k
  pub origin : slice_get found.origins place ≡ Some from

-- the states go on with some that were found
pub record GoesOnWith (found : Found) (old new : Reached) : Type 0 where
  pub states_front : IsFront old.states new.states
  pub origins_front : IsFront old.origins new.origins
  pub paired : length new.origins ≡ length new.states
  pub width : new.width ≡ old.width
  pub room : new.room ≡ old.room
  pub added : (place : ℕ) → length old.states ≤ place → place < length new.states
      → (at : ℕ) × (k : List ℕ) × (from : Origin) × IsFind found at k from
      × (slice_get new.states place ≡ Some k) × (slice_get new.origins place ≡ Some from)

-- all that were found are kept, or there is no room for one
abbrev pub AreThere : Found → Reached → Bool → Type 0
AreThere found new true =
    (place : ℕ) (k : List ℕ) → slice_get found.states place ≡ Some k → IsKnown new.states k
AreThere found new false = (place : ℕ) × (k : List ℕ) × (slice_get found.states place ≡ Some k)
    × (IsKnown new.states k → ⊥) × (length new.states ≡ new.room)

-- the states go on with some that were found, and have all of them unless there is no room
pub record AreKept (found : Found) (old new : Reached) (kept : Bool) : Type 0 where
  pub goes_on : GoesOnWith found old new
  pub there : AreThere found new kept
