-- The services of buffers, row by row: the first guard that holds answers and changes nothing
-- (ARINC 653 Part 1, buffers; the guards are this profile's).
use Rattle.std.specs.Prelude.{ℕ, Bool, true, false, List, [], ◌∷◌, ◌++◌, length, Option, None, Some, nat_lt, not, if◌then◌else◌}
use Rattle.apex_machine.specs.Terms.{BufferService, Caller, Entry, Message, Reply, Timeout, Wait}
use Rattle.apex_types.specs.declared.calls.BufferService.TheVariants.{Send, Receive}
use Rattle.apex_types.specs.declared.entries.Reply.TheVariants.{Status, Message as Gets}
use Rattle.apex_types.specs.declared.entries.ReturnCode.TheVariants.{NoError, InvalidParam, InvalidMode}
use Rattle.apex_machine.specs.declared.records.Queue.TheVariants as queues
use Rattle.apex_machine.specs.declared.records.Wait.TheVariants as wait
use Rattle.apex_machine.specs.services.Calls.{created_buffer}
use Rattle.apex_machine.specs.History.{is_created}
use Rattle.apex_types.specs.Messages.{is_unfit}
use Rattle.apex_machine.specs.services.Objects.{ObjectKind}
use Rattle.apex_machine.specs.processes.Owners.{is_waiting_owner}
use Rattle.apex_machine.specs.processes.Roster.{Roster, record_at}
use Rattle.apex_machine.specs.services.Rows.{Outcome, replied, accepted, answered_with, accepted_with, guarded, ◌⟶◌, by_process}
use Rattle.apex_machine.specs.services.Satisfied.{buffer_content}
use Rattle.apex_machine.specs.processes.Stamps.{receive}
use Rattle.apex_machine.specs.table.Table.{BufferConfig}
use Rattle.apex_machine.specs.processes.Waiters.{first_waiter, waiter_count}
use Rattle.apex_machine.specs.services.Waiting.{wait_for}
use Rattle.apex_machine.specs.services.Waking.{granted, woken}

-- a buffer as its services see it: the most bytes of a message, the most messages, and its
-- messages, the first one first
pub record BufferObject : Type 0 where
  pub longest : ℕ
  pub capacity : ℕ
  pub created : Bool
  pub messages : List Message

-- the process waits for a message of a buffer
abbrev pub is_receiver : Option Wait → Bool
is_receiver (Some (wait.Receive b)) = true
is_receiver _ = false

-- the message with which the process waits for room in a buffer
abbrev pub held_back : Option Wait → Option Message
held_back (Some (wait.Send b message)) = Some message
held_back _ = None

-- the message goes last
abbrev pub with_last : BufferObject → Message → BufferObject
with_last buffer message = record buffer { messages = buffer.messages ++ message ∷ [] }

-- a send by process p to the buffer itself: the message goes last if there is room, else p waits
abbrev pub send_last : Roster → BufferObject → ℕ → ℕ → Message → Timeout → Outcome BufferObject
send_last roster buffer b p message timeout =
    if nat_lt (length buffer.messages) buffer.capacity
    then accepted roster (with_last buffer message) []
    else wait_for roster buffer p (wait.Send b message) timeout

-- a send by process p to a buffer with this first waiter: if the waiter is a receiver it gets the
-- message, else the message goes to the buffer itself
abbrev pub send_past : Roster → BufferObject → ℕ → ℕ → Message → Timeout → Option ℕ
    → Outcome BufferObject
send_past roster buffer b p message timeout None = send_last roster buffer b p message timeout
send_past roster buffer b p message timeout (Some q) =
    if is_receiver (record_at roster q).wait
    then accepted_with buffer (granted (Some message) roster q)
    else send_last roster buffer b p message timeout

-- SEND_BUFFER
abbrev pub send_buffer : Roster → BufferObject → ℕ → Caller → Message → Timeout
    → Outcome BufferObject
send_buffer roster buffer b caller message timeout =
    guarded roster buffer
    (not buffer.created ⟶ InvalidParam
    ∷ is_unfit buffer.longest message ⟶ InvalidParam
    ∷ is_waiting_owner roster caller timeout ⟶ InvalidMode ∷ [])
    (by_process roster buffer caller (λ p.
    send_past roster buffer b p message timeout (first_waiter roster (queues.Buffer b))))

-- the message is received; if process q waits with a message to send, that one goes last, and q is
-- woken
abbrev pub take_in : Roster → BufferObject → Message → ℕ → Option Message → Outcome BufferObject
take_in roster buffer message q None = replied roster buffer (Gets message)
take_in roster buffer message q (Some sent) =
    answered_with (Gets message) (with_last buffer sent) (woken roster q NoError)

-- the message is received from a buffer with this first waiter
abbrev pub received : Roster → BufferObject → Message → Option ℕ → Outcome BufferObject
received roster buffer message None = replied roster buffer (Gets message)
received roster buffer message (Some q) =
    take_in roster buffer message q (held_back (record_at roster q).wait)

-- a receive by process p from a buffer with these messages: p gets the first one, else it waits
abbrev pub receive_first : Roster → BufferObject → ℕ → ℕ → Timeout → List Message
    → Outcome BufferObject
receive_first roster buffer b p timeout [] = wait_for roster buffer p (wait.Receive b) timeout
receive_first roster buffer b p timeout (message ∷ later) =
    let after = receive roster p message in
    received after (record buffer { messages = later }) message
    (first_waiter after (queues.Buffer b))

-- RECEIVE_BUFFER
abbrev pub receive_buffer : Roster → BufferObject → ℕ → Caller → Timeout → Outcome BufferObject
receive_buffer roster buffer b caller timeout =
    guarded roster buffer
    (not buffer.created ⟶ InvalidParam ∷ is_waiting_owner roster caller timeout ⟶ InvalidMode ∷ [])
    (by_process roster buffer caller (λ p. receive_first roster buffer b p timeout buffer.messages))

-- the services that buffers alone have
abbrev pub buffer_service : Roster → BufferObject → ℕ → Caller → BufferService
    → Outcome BufferObject
buffer_service roster buffer b caller (Send message timeout) =
    send_buffer roster buffer b caller message timeout
buffer_service roster buffer b caller (Receive timeout) =
    receive_buffer roster buffer b caller timeout

-- the status: the number of messages, and of waiters
abbrev pub buffer_status : Roster → BufferObject → ℕ → Reply
buffer_status roster buffer b =
    Status (length buffer.messages) (waiter_count roster (queues.Buffer b))

-- buffer b of this entry after the history
abbrev pub buffer_after : List Entry → ℕ → BufferConfig → BufferObject
buffer_after history b entry = record {
  longest = entry.length;
  capacity = entry.capacity;
  created = is_created created_buffer b history;
  messages = buffer_content b history;
}

-- buffers
abbrev pub buffer_kind : ObjectKind BufferConfig BufferObject BufferService
buffer_kind = record {
  absent = record { longest = 0; capacity = 0; created = false; messages = [] };
  created = λ buffer. buffer.created;
  made = λ buffer. record buffer { created = true };
  status = buffer_status;
  service = buffer_service;
  after = buffer_after;
}
