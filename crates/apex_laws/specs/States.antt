-- The four states of a process, each defined by itself (ARINC 653 Part 1, process management).
use Rattle.std.specs.Prelude.{◌≡◌, ◌≢◌, ℕ, ◌<◌, true, false, List, Some, length}
use Rattle.apex_laws.specs.Terms.{Event, State}
use Rattle.apex_types.specs.declared.modes.State.TheVariants.{Dormant, Ready, Running, Waiting}
use Rattle.apex_machine.specs.processes.Roster.{Roster, record_at}
use Rattle.apex_machine.specs.processes.Running.{is_eligible, chosen, process_state}
use Rattle.apex_machine.specs.table.Table.{Table}
use Rattle.apex_machine.specs.Machine.{run, opening}

-- process p is in this state: dormant, it is not started; ready, it is eligible and no core's
-- chosen one; running, it is a core's chosen one; waiting, it is started and not eligible
abbrev pub IsIn : Roster → ℕ → State → Type 0
IsIn roster p Dormant = (record_at roster p).started ≡ false
IsIn roster p Ready =
    (is_eligible roster.mode (record_at roster p) ≡ true)
    × ((core : ℕ) → chosen roster core ≢ Some p)
IsIn roster p Running = (core : ℕ) × (chosen roster core ≡ Some p)
IsIn roster p Waiting =
    ((record_at roster p).started ≡ true) × (is_eligible roster.mode (record_at roster p) ≡ false)

-- process p is in its state and in no other, and no core but its own runs it
pub record HasOneState (roster : Roster) (p : ℕ) : Type 0 where
  pub is : IsIn roster p (process_state roster p)
  pub only : (state : State) → IsIn roster p state → state ≡ process_state roster p
  pub core : (core : ℕ) → chosen roster core ≡ Some p → core ≡ (record_at roster p).core

-- in every state of every run each process is in exactly one of the four states
abbrev pub EachHasOneState : Table → Type 0
EachHasOneState table = (events : List Event) (p : ℕ) → p < length table.processes
    → HasOneState (run table (opening table) events).roster p
