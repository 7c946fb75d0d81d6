-- Desks at which states are expanded.
use Rattle.std.specs.Prelude.{◌≡◌, ℕ, ◌+◌, ◌^◌, ◌≤◌, List, length, Some, IfOk, Result}
use Rattle.std.specs.declared.alloc.AllocError.{AllocError}
use Rattle.apex_explore.specs.Parts.{IsExpansion}
use Rattle.apex_explore.specs.Systems.{Step}
use Rattle.apex_explore.specs.declared.desks.Desk.{Desk}
use Rattle.apex_states.specs.declared.expansions.Expansion.{Expansion}
use Rattle.apex_states.specs.Batches.{Copies}
use Rattle.apex_states.specs.Lists.{AllAre}

-- the desk is for states of this many words
pub record IsDesk {W : Type 0} (word_count : ℕ) (is_workspace : W → Type 0) (desk : Desk W)
    : Type 0 where
  pub workspace : is_workspace desk.workspace
  pub next : length desk.next.items ≡ word_count
  pub width : desk.batch.width ≡ word_count

-- the desk has copies of states of a system
pub record IsReady {W : Type 0} (is_state : List ℕ → Type 0) (desk : Desk W) : Type 0 where
  pub states : AllAre is_state desk.batch.states
  pub fits : desk.batch.first + length desk.batch.states ≤ 2 ^ 32

-- the expansion of these states was made at the desk, or there is no memory
pub record IsMade {W : Type 0} (step : List ℕ → ℕ → Step (List ℕ)) (word_count : ℕ)
    (is_state : List ℕ → Type 0) (is_workspace : W → Type 0) (copies : Copies) (desk : Desk W)
    : Type 0 where
  pub made : Result Expansion AllocError
  pub is : desk.made ≡ Some made
  pub expansion : IfOk made (IsExpansion step word_count is_state copies)
  pub desk_is : IfOk made (λ _. IsDesk word_count is_workspace desk)
