-- The services of event flags, row by row: the first guard that holds answers and changes nothing
-- (ARINC 653 Part 1, events; the guards are this profile's).
use Rattle.std.specs.Prelude.{ℕ, Bool, true, false, List, [], ◌∷◌, None, not, if◌then◌else◌}
use Rattle.apex_machine.specs.Terms.{Caller, Entry, EventFlagService, Reply, Timeout}
use Rattle.apex_types.specs.declared.calls.EventFlagService.TheVariants.{Set, Reset, Wait}
use Rattle.apex_types.specs.declared.entries.Reply.TheVariants.{Status}
use Rattle.apex_types.specs.declared.entries.ReturnCode.TheVariants.{InvalidParam, InvalidMode}
use Rattle.apex_machine.specs.declared.records.Queue.TheVariants as queues
use Rattle.apex_machine.specs.declared.records.Wait.TheVariants as wait
use Rattle.apex_machine.specs.services.Calls.{created_event_flag}
use Rattle.apex_machine.specs.History.{is_created}
use Rattle.apex_machine.specs.services.Objects.{ObjectKind}
use Rattle.apex_machine.specs.processes.Owners.{is_waiting_owner}
use Rattle.apex_machine.specs.processes.Roster.{Roster}
use Rattle.apex_machine.specs.services.Rows.{Outcome, accepted, accepted_with, guarded, ◌⟶◌, by_process}
use Rattle.apex_machine.specs.services.Satisfied.{is_up}
use Rattle.apex_machine.specs.table.Table.{EventFlagConfig}
use Rattle.apex_machine.specs.processes.Waiters.{waiter_count}
use Rattle.apex_machine.specs.services.Waiting.{wait_for}
use Rattle.apex_machine.specs.services.Waking.{grant_all}

-- an event flag as its services see it
pub record EventFlagObject : Type 0 where
  pub created : Bool
  pub up : Bool

-- SET_EVENT: the event flag is up, and all processes that wait for it are woken
abbrev pub set_event : Roster → EventFlagObject → ℕ → Outcome EventFlagObject
set_event roster event_flag e =
    guarded roster event_flag (not event_flag.created ⟶ InvalidParam ∷ [])
    (accepted_with (record event_flag { up = true }) (grant_all (queues.EventFlag e) None roster))

-- RESET_EVENT
abbrev pub reset_event : Roster → EventFlagObject → Outcome EventFlagObject
reset_event roster event_flag =
    guarded roster event_flag (not event_flag.created ⟶ InvalidParam ∷ [])
    (accepted roster (record event_flag { up = false }) [])

-- WAIT_EVENT: the process waits if the event flag is down
abbrev pub wait_event : Roster → EventFlagObject → ℕ → Caller → Timeout → Outcome EventFlagObject
wait_event roster event_flag e caller timeout =
    guarded roster event_flag
    (not event_flag.created ⟶ InvalidParam ∷ is_waiting_owner roster caller timeout ⟶ InvalidMode
    ∷ [])
    (by_process roster event_flag caller (λ p.
    if event_flag.up then accepted roster event_flag []
    else wait_for roster event_flag p (wait.EventFlag e) timeout))

-- the services that event flags alone have
abbrev pub event_flag_service : Roster → EventFlagObject → ℕ → Caller → EventFlagService
    → Outcome EventFlagObject
event_flag_service roster event_flag e caller Set = set_event roster event_flag e
event_flag_service roster event_flag e caller Reset = reset_event roster event_flag
event_flag_service roster event_flag e caller (Wait timeout) =
    wait_event roster event_flag e caller timeout

-- the status: 1 if it is up, else 0, and the number of waiters
abbrev pub event_flag_status : Roster → EventFlagObject → ℕ → Reply
event_flag_status roster event_flag e =
    Status (if event_flag.up then 1 else 0) (waiter_count roster (queues.EventFlag e))

-- event flag e of this entry after the history
abbrev pub event_flag_after : List Entry → ℕ → EventFlagConfig → EventFlagObject
event_flag_after history e entry =
    record { created = is_created created_event_flag e history; up = is_up e history }

-- event flags
abbrev pub event_flag_kind : ObjectKind EventFlagConfig EventFlagObject EventFlagService
event_flag_kind = record {
  absent = record { created = false; up = false };
  created = λ event_flag. event_flag.created;
  made = λ event_flag. record event_flag { created = true };
  status = event_flag_status;
  service = event_flag_service;
  after = event_flag_after;
}
