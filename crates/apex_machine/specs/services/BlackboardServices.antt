-- The services of blackboards, row by row: the first guard that holds answers and changes nothing
-- (ARINC 653 Part 1, blackboards; the guards are this profile's).
use Rattle.std.specs.Prelude.{ℕ, Bool, true, false, List, [], ◌∷◌, Option, None, Some, is_some, not, if◌then◌else◌}
use Rattle.apex_machine.specs.Terms.{BlackboardService, Caller, Entry, Message, Reply, Timeout}
use Rattle.apex_types.specs.declared.calls.BlackboardService.TheVariants.{Display, Read, Clear}
use Rattle.apex_types.specs.declared.entries.Reply.TheVariants.{Status, Message as Gets}
use Rattle.apex_types.specs.declared.entries.ReturnCode.TheVariants.{InvalidParam, InvalidMode}
use Rattle.apex_machine.specs.declared.records.Queue.TheVariants as queues
use Rattle.apex_machine.specs.declared.records.Wait.TheVariants as wait
use Rattle.apex_machine.specs.services.Calls.{created_blackboard}
use Rattle.apex_machine.specs.History.{is_created}
use Rattle.apex_types.specs.Messages.{is_unfit}
use Rattle.apex_machine.specs.services.Objects.{ObjectKind}
use Rattle.apex_machine.specs.processes.Owners.{is_waiting_owner}
use Rattle.apex_machine.specs.processes.Roster.{Roster}
use Rattle.apex_machine.specs.services.Rows.{Outcome, replied, accepted, accepted_with, guarded, ◌⟶◌, by_process}
use Rattle.apex_machine.specs.services.Satisfied.{blackboard_message}
use Rattle.apex_machine.specs.processes.Stamps.{receive}
use Rattle.apex_machine.specs.table.Table.{BlackboardConfig}
use Rattle.apex_machine.specs.processes.Waiters.{waiter_count}
use Rattle.apex_machine.specs.services.Waiting.{wait_for}
use Rattle.apex_machine.specs.services.Waking.{grant_all}

-- a blackboard as its services see it: the most bytes of a message, and the message that it holds
pub record BlackboardObject : Type 0 where
  pub longest : ℕ
  pub created : Bool
  pub message : Option Message

-- DISPLAY_BLACKBOARD: the message replaces the old one, and all readers get it
abbrev pub display_blackboard : Roster → BlackboardObject → ℕ → Message → Outcome BlackboardObject
display_blackboard roster blackboard b message =
    guarded roster blackboard
    (not blackboard.created ⟶ InvalidParam ∷ is_unfit blackboard.longest message ⟶ InvalidParam
    ∷ [])
    (accepted_with (record blackboard { message = Some message })
    (grant_all (queues.Blackboard b) (Some message) roster))

-- a read by process p of a blackboard that holds this: p gets the message, else it waits
abbrev pub read_shown : Roster → BlackboardObject → ℕ → ℕ → Timeout → Option Message
    → Outcome BlackboardObject
read_shown roster blackboard b p timeout None =
    wait_for roster blackboard p (wait.Blackboard b) timeout
read_shown roster blackboard b p timeout (Some message) =
    replied (receive roster p message) blackboard (Gets message)

-- READ_BLACKBOARD
abbrev pub read_blackboard : Roster → BlackboardObject → ℕ → Caller → Timeout
    → Outcome BlackboardObject
read_blackboard roster blackboard b caller timeout =
    guarded roster blackboard
    (not blackboard.created ⟶ InvalidParam ∷ is_waiting_owner roster caller timeout ⟶ InvalidMode
    ∷ [])
    (by_process roster blackboard caller
    (λ p. read_shown roster blackboard b p timeout blackboard.message))

-- CLEAR_BLACKBOARD
abbrev pub clear_blackboard : Roster → BlackboardObject → Outcome BlackboardObject
clear_blackboard roster blackboard =
    guarded roster blackboard (not blackboard.created ⟶ InvalidParam ∷ [])
    (accepted roster (record blackboard { message = None }) [])

-- the services that blackboards alone have
abbrev pub blackboard_service : Roster → BlackboardObject → ℕ → Caller → BlackboardService
    → Outcome BlackboardObject
blackboard_service roster blackboard b caller (Display message) =
    display_blackboard roster blackboard b message
blackboard_service roster blackboard b caller (Read timeout) =
    read_blackboard roster blackboard b caller timeout
blackboard_service roster blackboard b caller Clear = clear_blackboard roster blackboard

-- the status: 1 if it holds a message, else 0, and the number of waiters
abbrev pub blackboard_status : Roster → BlackboardObject → ℕ → Reply
blackboard_status roster blackboard b =
    Status (if is_some blackboard.message then 1 else 0) (waiter_count roster (queues.Blackboard b))

-- blackboard b of this entry after the history
abbrev pub blackboard_after : List Entry → ℕ → BlackboardConfig → BlackboardObject
blackboard_after history b entry = record {
  longest = entry.length;
  created = is_created created_blackboard b history;
  message = blackboard_message b history;
}

-- blackboards
abbrev pub blackboard_kind : ObjectKind BlackboardConfig BlackboardObject BlackboardService
blackboard_kind = record {
  absent = record { longest = 0; created = false; message = None };
  created = λ blackboard. blackboard.created;
  made = λ blackboard. record blackboard { created = true };
  status = blackboard_status;
  service = blackboard_service;
  after = blackboard_after;
}
