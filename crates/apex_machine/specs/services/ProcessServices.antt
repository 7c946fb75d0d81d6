-- The services of process management for a process that is named, row by row: the first guard that
-- holds answers and changes nothing (ARINC 653 Part 1, process management; the guards are this
-- profile's).
use Rattle.std.specs.Prelude.{ℕ, Bool, true, false, List, [], ◌∷◌, nat_le, nat_lt, is_none, is_some, not, ◌&&◌, ◌||◌, if◌then◌else◌}
use Rattle.apex_types.specs.declared.limits.TheConstants.{MOST_PRIORITY}
use Rattle.apex_machine.specs.Terms.{Caller, Entry, Notice, ProcessService, Record, Reply, State, Timeout}
use Rattle.apex_types.specs.declared.calls.ProcessService.TheVariants.{InitializeCoreAffinity, SetPriority, Start, DelayedStart, Stop, Suspend, Resume}
use Rattle.apex_types.specs.declared.calls.Timeout.TheVariants.{Poll, Ticks, Infinite}
use Rattle.apex_types.specs.declared.entries.Notice.TheVariants.{Woken}
use Rattle.apex_types.specs.declared.entries.Reply.TheVariants.{Status}
use Rattle.apex_types.specs.declared.entries.ReturnCode.TheVariants.{NoError, NoAction, InvalidParam, InvalidConfig, InvalidMode}
use Rattle.apex_types.specs.declared.modes.State.TheVariants as state
use Rattle.apex_machine.specs.services.Callers.{is_by_process}
use Rattle.apex_machine.specs.services.Calls.{created_process}
use Rattle.apex_machine.specs.services.Handovers.{halted}
use Rattle.apex_machine.specs.History.{is_created}
use Rattle.apex_machine.specs.services.Objects.{ObjectKind}
use Rattle.apex_machine.specs.processes.Owners.{owns_some}
use Rattle.apex_machine.specs.processes.Periods.{is_period_long, is_periodic}
use Rattle.apex_types.specs.Modes.{is_normal}
use Rattle.apex_machine.specs.processes.Roster.{Roster, record_at}
use Rattle.apex_machine.specs.services.Rows.{Outcome, Guard, accepted, accepted_with, guarded, ◌⟶◌}
use Rattle.apex_machine.specs.processes.Running.{current_priority, process_state}
use Rattle.apex_machine.specs.processes.Stamps as stamps
use Rattle.apex_machine.specs.table.Table.{ProcessConfig}
use Rattle.apex_machine.specs.Ticks.{begin_notices}

-- a process as its services see it, besides its record
pub record ProcessObject : Type 0 where
  pub created : Bool

-- INITIALIZE_PROCESS_CORE_AFFINITY
abbrev pub initialize_core_affinity : Roster → ProcessObject → ℕ → ℕ → Outcome ProcessObject
initialize_core_affinity roster process p core =
    guarded roster process
    (is_normal roster.mode ⟶ InvalidMode
    ∷ not process.created ⟶ InvalidParam
    ∷ not (nat_lt core roster.cores) ⟶ InvalidConfig ∷ [])
    (accepted (stamps.set_core roster p core) process [])

-- SET_PRIORITY
abbrev pub set_priority : Roster → ProcessObject → ℕ → ℕ → Outcome ProcessObject
set_priority roster process p priority =
    guarded roster process
    (not process.created ⟶ InvalidParam
    ∷ not (nat_le 1 priority && nat_le priority MOST_PRIORITY) ⟶ InvalidParam
    ∷ not (record_at roster p).started ⟶ InvalidMode ∷ [])
    (accepted (stamps.set_priority roster p priority) process [])

-- the delay is infinite
abbrev pub is_infinite : Timeout → Bool
is_infinite Infinite = true
is_infinite _ = false

-- the ticks of a delay, or 0 if it has none
abbrev pub delay_ticks : Timeout → ℕ
delay_ticks (Ticks n) = n
delay_ticks _ = 0

-- the notices of a start, which begins at once in NORMAL
abbrev pub start_notices : Roster → ℕ → ℕ → List Notice
start_notices roster p delay = if is_normal roster.mode then begin_notices p delay else []

-- a delay with which the process may not start: one for ever, or of a whole period
abbrev pub is_unfit_delay : Record → Timeout → Bool
is_unfit_delay r delay = is_infinite delay || is_period_long r.attributes.period (delay_ticks delay)

-- DELAYED_START, and START, whose delay is 0
abbrev pub start_process : Roster → ProcessObject → ℕ → Timeout → Outcome ProcessObject
start_process roster process p delay =
    guarded roster process
    (not process.created ⟶ InvalidParam
    ∷ (record_at roster p).started ⟶ NoAction
    ∷ is_unfit_delay (record_at roster p) delay ⟶ InvalidParam ∷ [])
    (accepted (stamps.start roster p (delay_ticks delay)) process
    (start_notices roster p (delay_ticks delay)))

-- the guards of a service for another process, and then these: the call is refused if the caller
-- names itself, or if the process is not created
abbrev pub of_another : Caller → ProcessObject → ℕ → List Guard → List Guard
of_another caller process p guards =
    is_by_process p caller ⟶ InvalidParam ∷ not process.created ⟶ InvalidParam ∷ guards

-- STOP
abbrev pub stop_process : Roster → ProcessObject → ℕ → Caller → Outcome ProcessObject
stop_process roster process p caller =
    guarded roster process
    (of_another caller process p (not (record_at roster p).started ⟶ NoAction ∷ []))
    (accepted_with process (halted roster p))

-- a process that can't be suspended: a dormant or a periodic one
abbrev pub is_unsuspendable : Record → Bool
is_unsuspendable r = not r.started || is_periodic r

-- SUSPEND
abbrev pub suspend_process : Roster → ProcessObject → ℕ → Caller → Outcome ProcessObject
suspend_process roster process p caller =
    guarded roster process
    (of_another caller process p
    (is_unsuspendable (record_at roster p) ⟶ InvalidMode
    ∷ is_some (record_at roster p).suspended ⟶ NoAction
    ∷ owns_some (record_at roster p) ⟶ InvalidMode ∷ []))
    (accepted (stamps.suspend roster p) process [])

-- the notices of RESUME, which wakes a process that suspended itself
abbrev pub resume_notices : Roster → ℕ → List Notice
resume_notices roster p =
    if stamps.is_by_itself (record_at roster p).suspended then Woken p NoError ∷ [] else []

-- RESUME
abbrev pub resume_process : Roster → ProcessObject → ℕ → Caller → Outcome ProcessObject
resume_process roster process p caller =
    guarded roster process
    (of_another caller process p
    (is_unsuspendable (record_at roster p) ⟶ InvalidMode
    ∷ is_none (record_at roster p).suspended ⟶ NoAction ∷ []))
    (accepted (stamps.resume roster p) process (resume_notices roster p))

-- the services that processes alone have
abbrev pub process_service : Roster → ProcessObject → ℕ → Caller → ProcessService
    → Outcome ProcessObject
process_service roster process p caller (InitializeCoreAffinity core) =
    initialize_core_affinity roster process p core
process_service roster process p caller (SetPriority priority) =
    set_priority roster process p priority
process_service roster process p caller Start = start_process roster process p Poll
process_service roster process p caller (DelayedStart delay) = start_process roster process p delay
process_service roster process p caller Stop = stop_process roster process p caller
process_service roster process p caller Suspend = suspend_process roster process p caller
process_service roster process p caller Resume = resume_process roster process p caller

-- the number of a state (ARINC 653 Part 1)
abbrev pub state_number : State → ℕ
state_number state.Dormant = 0
state_number state.Ready = 1
state_number state.Running = 2
state_number state.Waiting = 3

-- the status: the state, and the current priority
abbrev pub process_status : Roster → ProcessObject → ℕ → Reply
process_status roster process p =
    Status (state_number (process_state roster p)) (current_priority (record_at roster p))

-- process p of this entry after the history
abbrev pub process_after : List Entry → ℕ → ProcessConfig → ProcessObject
process_after history p entry = record { created = is_created created_process p history }

-- processes
abbrev pub process_kind : ObjectKind ProcessConfig ProcessObject ProcessService
process_kind = record {
  absent = record { created = false };
  created = λ process. process.created;
  made = λ process. record { created = true };
  status = process_status;
  service = process_service;
  after = process_after;
}
