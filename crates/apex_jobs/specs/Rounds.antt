-- Rounds of a level: states that are laid out on desks, and what threads found there.
use Rattle.std.specs.Prelude.{◌≡◌, ℕ, ◌+◌, ◌*◌, ◌≤◌, List, length, min, IfOk, IfSome, None, Ok, Option, Some, slice_get}
use Rattle.apex_explore.specs.Desks.{IsMade, IsReady}
use Rattle.apex_explore.specs.Levels.{Stops}
use Rattle.apex_explore.specs.Parts.{Expanded, IsPast}
use Rattle.apex_explore.specs.Searches.{IsOver, IsUnderWay, room_of}
use Rattle.apex_explore.specs.Systems.{Step}
use Rattle.apex_explore.specs.declared.desks.Desk.{Desk}
use Rattle.apex_states.specs.declared.expansions.Expansion.{Expansion}
use Rattle.apex_explore.specs.declared.search.Stop.{Stop}
use Rattle.apex_explore.specs.declared.searches.Search.{Search}
use Rattle.apex_states.specs.Batches.{Copies, IsCopied}
use Rattle.apex_states.specs.Lists.{AllAre, IsFront}
use Rattle.apex_states.specs.States.{Reached}

-- the place of the first state of a desk, if each has this many from `from` on and before `limit`, as
-- far as they go
abbrev pub start_at : ℕ → ℕ → ℕ → ℕ → ℕ
start_at from limit size desk = min limit (from + size * desk)

-- there was memory for the states of the desk
abbrev pub IsLaid : {W : Type 0} → Desk W → Type 0
IsLaid desk = desk.laid ≡ Ok tt

-- copies of these states are laid out on the desk, or there is no memory
pub record LaysOut {W : Type 0} (reached : Reached) (from limit : ℕ) (old new : Desk W) : Type 0 where
  pub copied : IfOk new.laid (λ _. IsCopied reached from limit new.batch)
  pub same : new ≡ record old { batch = new.batch; laid = new.laid }

-- copies of these states were expanded at the desk, or there is no memory
pub record IsDone {W : Type 0} (step : List ℕ → ℕ → Step (List ℕ)) (word_count : ℕ)
    (is_state : List ℕ → Type 0) (is_workspace : W → Type 0) (reached : Reached) (from limit : ℕ)
    (desk : Desk W) : Type 0 where
  pub copies : Copies
  pub copied : IsCopied reached from limit copies
  pub made : IsMade step word_count is_state is_workspace copies desk

-- the starts cut the places from `from` on and before `limit` into this many parts
pub record AreStarts (from limit count : ℕ) (start : ℕ → ℕ) : Type 0 where
  pub first : start 0 ≡ from
  pub last : start count ≡ limit
  pub within : (part : ℕ) → start part ≤ limit

-- copies of the states from `from` on and before `limit` are laid out: each desk has those from its
-- start on and before the start of the next one
pub record AreLaidOut {W : Type 0} (is_state : List ℕ → Type 0) (reached : Reached) (from limit : ℕ)
    (desks : List (Desk W)) : Type 0 where
  pub start : ℕ → ℕ
  pub starts : AreStarts from limit (length desks) start
  pub copied : (place : ℕ) (desk : Desk W) → slice_get desks place ≡ Some desk
      → IsCopied reached (start place) (start (place + 1)) desk.batch
  pub ready : AllAre (IsReady is_state) desks

-- the expansions are those of the states from `from` on and before `limit`
pub record AreExpansions (step : List ℕ → ℕ → Step (List ℕ)) (is_state : List ℕ → Type 0)
    (reached : Reached) (from limit : ℕ) (expansions : List Expansion) : Type 0 where
  pub start : ℕ → ℕ
  pub starts : AreStarts from limit (length expansions) start
  pub each : (place : ℕ) (expansion : Expansion) → slice_get expansions place ≡ Some expansion
      → Expanded step is_state reached (start place) (start (place + 1)) expansion

-- the expansions are those that were made at the desks
pub record AreGathered {W : Type 0} (desks : List (Desk W)) (expansions : List Expansion)
    : Type 0 where
  pub count : length expansions ≡ length desks
  pub each : (place : ℕ) (expansion : Expansion) → slice_get expansions place ≡ Some expansion
      → (desk : Desk W) × (slice_get desks place ≡ Some desk) × (desk.made ≡ Some (Ok expansion))

-- the search went on by expansions that end at `limit`, where it stops for this reason, if any
pub record IsTaken {W : Type 0} (step : List ℕ → ℕ → Step (List ℕ)) (first : List ℕ)
    (word_count : ℕ) (is_state : List ℕ → Type 0) (is_workspace : W → Type 0) (limit : ℕ)
    (old new : Search W) (stop : Option Stop) : Type 0 where
  pub over : IsOver word_count is_state is_workspace new
  pub searched : IsUnderWay step first new
  pub stops : IfSome stop (Stops step new.states new.front)
  pub past : stop ≡ None → IsPast limit old.front new.front
  pub states : IsFront old.states.states new.states.states
  pub room : room_of new ≡ room_of old
