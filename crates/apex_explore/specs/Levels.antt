-- What a search keeps true of the states that it has reached, each by its place, and of where each
-- comes from.
use Rattle.std.specs.Prelude.{◌≡◌, ℕ, ◌+◌, ◌<◌, ◌≤◌, ◌==◌, zero, suc, List, [], ◌∷◌, ◌++◌, length, Some, slice_get, if◌then◌else◌}
use Rattle.apex_explore.specs.declared.fronts.Front.{Front}
use Rattle.apex_explore.specs.declared.search.Expanded.{Expanded}
use Rattle.apex_explore.specs.declared.search.Expanded.TheVariants.{All, Struck, Over}
use Rattle.apex_explore.specs.declared.search.Stop.{Stop}
use Rattle.apex_explore.specs.declared.search.Stop.TheVariants as stops
use Rattle.apex_states.specs.declared.states.Origin.{Origin}
use Rattle.apex_states.specs.Index.{IsKnown}
use Rattle.apex_states.specs.Lists.{IsFront}
use Rattle.apex_explore.specs.Paths.{Leads}
use Rattle.apex_states.specs.States.{Reached}
use Rattle.apex_explore.specs.Systems.{Step, refuses, goes, hits}

-- the front of a search that has reached its first state alone
abbrev pub first_front : Front
first_front = record { at = 0; depth = 0; level_end = 1 }

-- the front at its next state: at the end of a level the next one begins, which has all states that
-- are there
abbrev pub turned : Front → ℕ → Front
turned front count =
    if front.at == front.level_end
    then record { at = front.at; depth = front.depth + 1; level_end = count }
    else front

-- n is one of the first `count` states
pub record IsAmong {K : Type 0} (states : List K) (count : ℕ) (n : K) : Type 0 where
  pub place : ℕ
  pub within : place < count
  pub is : slice_get states place ≡ Some n

-- the step does not hit, and the state that it goes on to, if any, is one of the states
abbrev pub Keeps : {K : Type 0} → List K → Step K → Type 0
Keeps states refuses = Unit {0}
Keeps states (goes n) = IsAmong states (length states) n
Keeps states hits = ⊥

-- the path is that of the origins from `place` back, over this many states
abbrev pub IsTrail : List Origin → ℕ → ℕ → List ℕ → Type 0
IsTrail origins zero place path = path ≡ []
IsTrail origins (suc depth) place path = (o : Origin) × (front : List ℕ)
    × (slice_get origins place ≡ Some o) × (path ≡ front ++ o.choice ∷ [])
    × IsTrail origins depth o.parent front

module _ {K : Type 0} (step : K → ℕ → Step K) (states : List K) (origins : List Origin) where
  -- the origin at `place` says by which choice the state there comes from the one at `parent`
  pub record IsChild (parent place : ℕ) : Type 0 where
    pub from : K
    pub to : K
    pub choice : ℕ
    pub origin : slice_get origins place ≡ Some (record { parent = parent; choice = choice })
    pub from_is : slice_get states parent ≡ Some from
    pub to_is : slice_get states place ≡ Some to
    pub leads : step from choice ≡ goes to

  -- the origins lead from `place` back to the first place over this many states
  abbrev pub IsTraced : ℕ → ℕ → Type 0
  IsTraced zero place = place ≡ 0
  IsTraced (suc depth) place = (parent : ℕ) × IsChild parent place × IsTraced depth parent

  -- the states before `at` are done, those before `level_end` are `depth` choices away from the
  -- first, and the others one more
  pub record IsLevel (first : K) (at depth level_end : ℕ) : Type 0 where
    pub paired : length origins ≡ length states
    pub root : slice_get states 0 ≡ Some first
    pub before : (place : ℕ) → place < at → (steps : ℕ) × (steps ≤ depth) × IsTraced steps place
    pub now : (place : ℕ) → at ≤ place → place < level_end → IsTraced depth place
    pub later : (place : ℕ) → level_end ≤ place → place < length states
        → IsTraced (suc depth) place
    pub done : (place : ℕ) (k : K) (choice : ℕ) → place < at → slice_get states place ≡ Some k
        → Keeps states (step k choice)
    pub near : (path : List ℕ) (n : K) → length path < depth → Leads step first path n
        → IsAmong states at n
    pub level : (path : List ℕ) (n : K) → length path ≤ depth → Leads step first path n
        → IsAmong states level_end n
    pub in_order : at ≤ level_end
    pub in_states : level_end ≤ length states
    pub deep : depth < level_end

-- the new states and origins go on with children of the state at `place`
pub record Grows {K : Type 0} (step : K → ℕ → Step K) (place : ℕ) (states : List K)
    (origins : List Origin) (states' : List K) (origins' : List Origin) : Type 0 where
  pub states_front : IsFront states states'
  pub origins_front : IsFront origins origins'
  pub paired : length origins' ≡ length states'
  pub children : (child : ℕ) → length states ≤ child → child < length states'
      → IsChild step states' origins' place child

-- the states that are reached go on with children of the state at `place`
abbrev pub GoesOn : (List ℕ → ℕ → Step (List ℕ)) → ℕ → Reached → Reached → Type 0
GoesOn step place old new = Grows step place old.states old.origins new.states new.origins

-- what came of the choices in the state at `place`: all are kept, one hits, or one goes on to a
-- state for which there is no room
abbrev pub Comes : (List ℕ → ℕ → Step (List ℕ)) → List (List ℕ) → ℕ → ℕ → Expanded → Type 0
Comes step states room place All =
    (k : List ℕ) (choice : ℕ) → slice_get states place ≡ Some k → Keeps states (step k choice)
Comes step states room place (Struck choice) =
    (k : List ℕ) × (slice_get states place ≡ Some k) × (step k choice ≡ hits)
Comes step states room place Over = (k : List ℕ) × (n : List ℕ) × (choice : ℕ)
    × (slice_get states place ≡ Some k) × (step k choice ≡ goes n)
    × (IsKnown states n → ⊥) × (length states ≡ room)

-- the search by this step from this first state has come as far as the front
abbrev pub IsAt : (List ℕ → ℕ → Step (List ℕ)) → List ℕ → Reached → Front → Type 0
IsAt step first reached front =
    IsLevel step reached.states reached.origins first front.at front.depth front.level_end

-- why the search stops: a choice hits in the state at the front, one goes on from a state of the
-- level to one for which there is no room, or each state is done
abbrev pub Stops : (List ℕ → ℕ → Step (List ℕ)) → Reached → Front → Stop → Type 0
Stops step reached front (stops.Struck choice) = (front.at < front.level_end)
    × Comes step reached.states reached.room front.at (Struck choice)
Stops step reached front stops.Over = (place : ℕ) × (front.at ≤ place) × (place < front.level_end)
    × Comes step reached.states reached.room place Over
Stops step reached front stops.Done = length reached.states ≤ front.at
