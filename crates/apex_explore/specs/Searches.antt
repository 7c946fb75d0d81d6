-- A search that can go on: what it has reached, and what that says of the steps of a system.
use Rattle.std.specs.Prelude.{◌≡◌, ℕ, ◌<◌, ◌⊎◌, List, [], length}
use Rattle.apex_explore.specs.declared.fronts.Front.{Front}
use Rattle.apex_explore.specs.declared.searches.Places.{Places}
use Rattle.apex_explore.specs.declared.searches.Search.{Search}
use Rattle.apex_explore.specs.Levels.{IsAt}
use Rattle.apex_states.specs.Lists.{AllAre}
use Rattle.apex_states.specs.States.{Reached}
use Rattle.apex_explore.specs.Systems.{Step, hits}

-- the new step is weaker: it does in each state what the old one does, unless that hits
abbrev pub Weakens : {K : Type 0} → (K → ℕ → Step K) → (K → ℕ → Step K) → Type 0
Weakens {K} old new =
    (k : K) (choice : ℕ) → (new k choice ≡ old k choice) ⊎ (old k choice ≡ hits)

-- how many states the search has room for
abbrev pub room_of : {W : Type 0} → Search W → ℕ
room_of search = search.states.room

-- these states are those of a search by this step from this first state, level by level, as far as this
-- front; or there is no room, not even for the first
abbrev pub AreSearched : (List ℕ → ℕ → Step (List ℕ)) → List ℕ → Reached → Front → Type 0
AreSearched step first reached front =
    ((reached.states ≡ []) × (reached.room ≡ 0)) ⊎ IsAt step first reached front

-- the search is over a system with states of this many words: it has only such states, and a
-- workspace of the system
pub record IsOver {W : Type 0} (word_count : ℕ) (is_state : List ℕ → Type 0)
    (is_workspace : W → Type 0) (search : Search W) : Type 0 where
  pub width : search.states.width ≡ word_count
  pub state : length search.state.items ≡ word_count
  pub next : length search.next.items ≡ word_count
  pub workspace : is_workspace search.workspace
  pub states : AllAre is_state search.states.states

-- the states of the search are those of a search by this step from this first state, as far as its front
abbrev pub IsSearched : {W : Type 0} → (List ℕ → ℕ → Step (List ℕ)) → List ℕ → Search W → Type 0
IsSearched step first search = AreSearched step first search.states search.front

-- the search has states, and is as far as its front
abbrev pub IsUnderWay : {W : Type 0} → (List ℕ → ℕ → Step (List ℕ)) → List ℕ → Search W → Type 0
IsUnderWay step first search = IsAt step first search.states search.front

-- the search was made by a step that this one weakens
abbrev pub IsSearchedBefore : {W : Type 0} → (List ℕ → ℕ → Step (List ℕ)) → List ℕ → Search W
    → Type 0
IsSearchedBefore step first search = (before : List ℕ → ℕ → Step (List ℕ))
    × Weakens before step × IsSearched before first search

-- the places from the front to the end of its level
pub record AreLeft (front : Front) (places : Places) : Type 0 where
  pub from : places.from ≡ front.at
  pub limit : places.limit ≡ front.level_end
  pub some : places.from < places.limit
