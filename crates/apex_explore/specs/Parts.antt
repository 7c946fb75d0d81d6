-- Parts of a level: what the choices in the states of a part do.
use Rattle.std.specs.Prelude.{◌≡◌, ℕ, ◌+◌, ◌<◌, ◌≤◌, ◌⊎◌, List, length, Option, None, Some, IfSome, slice_get}
use Rattle.apex_states.specs.Batches.{Copies, IsCopied}
use Rattle.apex_states.specs.Finds.{Found, IsFind}
use Rattle.apex_states.specs.Lists.{AllAre, IsFront}
use Rattle.apex_states.specs.States.{Reached}
use Rattle.apex_states.specs.declared.states.Origin.{Origin}
use Rattle.apex_explore.specs.declared.fronts.Front.{Front}
use Rattle.apex_states.specs.declared.expansions.Expansion.{Expansion}
use Rattle.apex_explore.specs.declared.search.Stop.{Stop}
use Rattle.apex_explore.specs.Levels.{IsAt, IsChild, Keeps, Stops}
use Rattle.apex_explore.specs.Systems.{Step, goes, hits}

-- the new states and origins go on with children of the states of a part, which are those from `from`
-- on and before `limit`, and of the states before `at` all
pub record GrowsBy {K : Type 0} (step : K → ℕ → Step K) (from at limit : ℕ) (states : List K)
    (origins : List Origin) (states' : List K) (origins' : List Origin) : Type 0 where
  pub states_front : IsFront states states'
  pub origins_front : IsFront origins origins'
  pub paired : length origins' ≡ length states'
  pub children : (child : ℕ) → length states ≤ child → child < length states'
      → (parent : ℕ) × (from ≤ parent) × (parent < limit) × IsChild step states' origins' parent child
  pub done : (place : ℕ) (k : K) (choice : ℕ) → from ≤ place → place < at
      → slice_get states place ≡ Some k → Keeps states' (step k choice)

-- the finds are states of a system
pub record IsFilling (word_count : ℕ) (is_state : List ℕ → Type 0) (found : Found) : Type 0 where
  pub paired : length found.origins ≡ length found.states
  pub width : found.width ≡ word_count
  pub states : AllAre is_state found.states

-- the finds go on with states to which choices go on in the state k, which is the one at `place`
pub record FindsMore (step : List ℕ → ℕ → Step (List ℕ)) (place : ℕ) (k : List ℕ) (old new : Found)
    : Type 0 where
  pub states_front : IsFront old.states new.states
  pub added : (at : ℕ) (n : List ℕ) (origin : Origin) → IsFind new at n origin
      → IsFind old at n origin ⊎ ((origin.parent ≡ place) × (step k origin.choice ≡ goes n))

-- what came of the choices in the state k: all go on to states that are found, or one hits
abbrev pub Expands : (List ℕ → ℕ → Step (List ℕ)) → List ℕ → Found → Option ℕ → Type 0
Expands step k found None = (choice : ℕ) → Keeps found.states (step k choice)
Expands step k found (Some choice) = step k choice ≡ hits

-- the state n was found by the choice of its origin in one of the copied states
pub record IsFrom (step : List ℕ → ℕ → Step (List ℕ)) (copies : Copies) (n : List ℕ)
    (origin : Origin) : Type 0 where
  pub at : ℕ
  pub k : List ℕ
  pub place : origin.parent ≡ copies.first + at
  pub is : slice_get copies.states at ≡ Some k
  pub leads : step k origin.choice ≡ goes n

-- the states that were found come from the copied ones, and are all to which choices in the first
-- `done` of these go on
pub record Finds (step : List ℕ → ℕ → Step (List ℕ)) (copies : Copies) (done : ℕ) (found : Found)
    : Type 0 where
  pub from : (at : ℕ) (n : List ℕ) (origin : Origin) → IsFind found at n origin
      → IsFrom step copies n origin
  pub whole : (at : ℕ) (k : List ℕ) (choice : ℕ) → at < done → slice_get copies.states at ≡ Some k
      → Keeps found.states (step k choice)

-- the first `done` states are all, or a choice hits in the one behind them
abbrev pub Ends : (List ℕ → ℕ → Step (List ℕ)) → List (List ℕ) → ℕ → Option ℕ → Type 0
Ends step states done None = done ≡ length states
Ends step states done (Some choice) =
    (k : List ℕ) × (slice_get states done ≡ Some k) × (step k choice ≡ hits)

-- an expansion of copied states has what choices go on to in the states before its end
pub record IsExpansion (step : List ℕ → ℕ → Step (List ℕ)) (word_count : ℕ)
    (is_state : List ℕ → Type 0) (copies : Copies) (expansion : Expansion) : Type 0 where
  pub done : ℕ
  pub finds : Finds step copies done expansion.finds
  pub filling : IsFilling word_count is_state expansion.finds
  pub end : expansion.end ≡ copies.first + done
  pub ends : Ends step copies.states done expansion.hit

-- the expansion is that of copies of the states from `from` on and before `limit`
pub record Expanded (step : List ℕ → ℕ → Step (List ℕ)) (is_state : List ℕ → Type 0)
    (reached : Reached) (from limit : ℕ) (expansion : Expansion) : Type 0 where
  pub copies : Copies
  pub copied : IsCopied reached from limit copies
  pub is : IsExpansion step reached.width is_state copies expansion

-- the expansion is that of states from the front on, in its level
pub record FitsOne (step : List ℕ → ℕ → Step (List ℕ)) (is_state : List ℕ → Type 0)
    (reached : Reached) (front : Front) (expansion : Expansion) : Type 0 where
  pub limit : ℕ
  pub expanded : Expanded step is_state reached front.at limit expansion
  pub level : limit ≤ front.level_end

-- the expansions are those of states from the front on and before `limit`, in its level: each has
-- those from its start on and before the start of the next one
pub record Fit (step : List ℕ → ℕ → Step (List ℕ)) (is_state : List ℕ → Type 0)
    (reached : Reached) (front : Front) (limit : ℕ) (expansions : List Expansion) : Type 0 where
  pub start : ℕ → ℕ
  pub first : start 0 ≡ front.at
  pub last : start (length expansions) ≡ limit
  pub within : (place : ℕ) → start place ≤ limit
  pub level : limit ≤ front.level_end
  pub each : (place : ℕ) (expansion : Expansion) → slice_get expansions place ≡ Some expansion
      → Expanded step is_state reached (start place) (start (place + 1)) expansion

-- the search has come as far as the front, with states of a system
pub record Stands (step : List ℕ → ℕ → Step (List ℕ)) (is_state : List ℕ → Type 0)
    (first : List ℕ) (word_count : ℕ) (reached : Reached) (front : Front) : Type 0 where
  pub level : IsAt step first reached front
  pub width : reached.width ≡ word_count
  pub states : AllAre is_state reached.states

-- the search goes on from the old states to the front, where it stops for this reason, if any
pub record Follows (step : List ℕ → ℕ → Step (List ℕ)) (is_state : List ℕ → Type 0)
    (first : List ℕ) (word_count : ℕ) (old new : Reached) (front : Front) (stop : Option Stop)
    : Type 0 where
  pub stands : Stands step is_state first word_count new front
  pub stops : IfSome stop (Stops step new front)
  pub states_front : IsFront old.states new.states
  pub room : new.room ≡ old.room

-- the front is at this place, in the same level
pub record IsPast (place : ℕ) (old new : Front) : Type 0 where
  pub at : new.at ≡ place
  pub depth : new.depth ≡ old.depth
  pub level : new.level_end ≡ old.level_end
