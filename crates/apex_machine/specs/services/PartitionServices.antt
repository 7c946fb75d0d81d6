-- The services of partition management, row by row (ARINC 653 Part 1, partition management; the
-- order of releases is this profile's).
use Rattle.std.specs.Prelude.{ℕ, [], ◌∷◌, length, map, Option, Some}
use Rattle.apex_machine.specs.Terms.{Mode, PartitionCall, RequestedMode, Wait}
use Rattle.apex_types.specs.declared.calls.PartitionCall.TheVariants.{SetPartitionMode, GetPartitionStatus}
use Rattle.apex_types.specs.declared.calls.RequestedMode.TheVariants as requested
use Rattle.apex_types.specs.declared.entries.Reply.TheVariants.{Status, Gone}
use Rattle.apex_types.specs.declared.entries.ReturnCode.TheVariants.{NoAction}
use Rattle.apex_types.specs.declared.modes.Mode.TheVariants as mode
use Rattle.apex_machine.specs.declared.records.Queue.TheVariants as queues
use Rattle.apex_machine.specs.declared.records.Wait.TheVariants as wait
use Rattle.apex_machine.specs.services.Rows.{Outcome, replied, accepted_with, guarded, ◌⟶◌}
use Rattle.apex_types.specs.Modes.{is_normal}
use Rattle.apex_machine.specs.processes.Roster.{Roster, record_at}
use Rattle.apex_machine.specs.processes.Stamps.{set_mode, stopped}
use Rattle.apex_machine.specs.processes.Waiters.{first_waiter}
use Rattle.apex_machine.specs.services.InTurn.{Changed, in_turn}
use Rattle.apex_machine.specs.Ticks.{begun}

-- the process that has waited for NORMAL for the longest time
abbrev pub first_to_start : Roster → Option ℕ
first_to_start roster = first_waiter roster queues.Normal

-- the delay of a start that waits for NORMAL
abbrev pub delay_of : Option Wait → ℕ
delay_of (Some (wait.Normal delay)) = delay
delay_of _ = 0

-- the start of process p, which waited for NORMAL, begins
abbrev pub begin_waiter : Roster → ℕ → Changed
begin_waiter roster p = begun roster p (delay_of (record_at roster p).wait)

-- the entry into NORMAL: the mode is set, and the starts that wait for it begin, the longest wait
-- first
unfoldable pub enter_normal : Roster → Changed
enter_normal roster =
    in_turn first_to_start begin_waiter (length roster.records) (set_mode roster mode.Normal)

-- IDLE: every process is stopped for good, without a notice
abbrev pub enter_idle : Roster → Roster
enter_idle roster = record roster { mode = mode.Idle; records = map stopped roster.records }

-- SET_PARTITION_MODE
abbrev pub set_partition_mode : {X : Type 0} → Roster → X → RequestedMode → Outcome X
set_partition_mode roster objects requested.Idle = replied (enter_idle roster) objects Gone
set_partition_mode roster objects requested.Normal =
    guarded roster objects (is_normal roster.mode ⟶ NoAction ∷ [])
    (accepted_with objects (enter_normal roster))

-- the number of a mode (ARINC 653 Part 1)
abbrev pub mode_number : Mode → ℕ
mode_number mode.Idle = 0
mode_number mode.ColdStart = 1
mode_number mode.Normal = 3

-- any service of partition management
abbrev pub partition_service : {X : Type 0} → Roster → X → PartitionCall → Outcome X
partition_service roster objects (SetPartitionMode requested) =
    set_partition_mode roster objects requested
partition_service roster objects GetPartitionStatus =
    replied roster objects (Status (mode_number roster.mode) roster.cores)
