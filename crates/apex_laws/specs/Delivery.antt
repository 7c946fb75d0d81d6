-- Which message a receive from a buffer gives (ARINC 653 Part 1, buffers).
use Rattle.std.specs.Prelude.{◌≡◌, ℕ, List, Some, Contains, count_by, length, slice_get}
use Rattle.std.specs.List.{filter_map}
use Rattle.apex_laws.specs.Terms.{BufferService, Entry, Event, Message, Timeout}
use Rattle.apex_types.specs.declared.calls.BufferService.TheVariants.{Send, Receive}
use Rattle.apex_types.specs.declared.calls.Call.TheVariants.{Buffer}
use Rattle.apex_types.specs.declared.calls.ObjectCall.TheVariants.{KindService}
use Rattle.apex_types.specs.declared.entries.Caller.TheVariants.{Process}
use Rattle.apex_types.specs.declared.entries.Notice.TheVariants.{Woken}
use Rattle.apex_types.specs.declared.entries.Reply.TheVariants.{Message as Gets}
use Rattle.apex_types.specs.declared.entries.ReturnCode.TheVariants.{NoError}
use Rattle.apex_machine.specs.declared.records.Queue.TheVariants as queues
use Rattle.apex_machine.specs.declared.records.Wait.TheVariants as wait
use Rattle.apex_machine.specs.Deeds.{Deed}
use Rattle.apex_machine.specs.Machine.{Machine, deed_of, opening, run, situation_of}
use Rattle.apex_machine.specs.Situations.{deed}
use Rattle.apex_machine.specs.processes.Roster.{Roster, record_at}
use Rattle.apex_machine.specs.services.Calls.{is_receive, names, sent_message}
use Rattle.apex_machine.specs.services.Satisfied.{calls_where}
use Rattle.apex_machine.specs.table.Table.{Table}

-- the messages of the satisfied sends to buffer b, in the order in which these were satisfied
abbrev pub sent_to : ℕ → List Entry → List Message
sent_to b history = filter_map sent_message (calls_where (names (queues.Buffer b)) history)

-- the number of satisfied receives from buffer b
abbrev pub receives_from : ℕ → List Entry → ℕ
receives_from b history = count_by is_receive (calls_where (names (queues.Buffer b)) history)

-- the message is the next one of buffer b: of all messages that were sent to b, as many come before
-- it as receives from b were satisfied
abbrev pub IsNextOf : ℕ → List Entry → Message → Type 0
IsNextOf b history message = slice_get (sent_to b history) (receives_from b history) ≡ Some message

-- the deed's call is this service of buffer b
abbrev pub CallsBuffer : Deed → ℕ → BufferService → Type 0
CallsBuffer done b service = done.call ≡ Some (Buffer (KindService b service))

-- process p has received the message last
abbrev pub HasReceived : Roster → ℕ → Message → Type 0
HasReceived roster p message = (record_at roster p).inbox ≡ Some message

-- a deed gives process p this message, which was the next one of buffer b
pub record IsGivenNext (history : List Entry) (done : Deed) (b : ℕ) (message : Message)
    : Type 0 where
  pub next : IsNextOf b history message
  pub received : (p : ℕ) → done.caller ≡ Process p → HasReceived done.outcome.roster p message

-- a deed hands process p this message, past buffer b: p waited to receive from b, and each message
-- that was sent to b before had been received
pub record IsHandedOver (before : Machine) (done : Deed) (b p : ℕ) (message : Message)
    : Type 0 where
  pub waited : (record_at before.roster p).wait ≡ Some (wait.Receive b)
  pub none_before : receives_from b before.history ≡ length (sent_to b before.history)
  pub received : HasReceived done.outcome.roster p message

-- the deed's call sends a message to buffer b
abbrev pub SendsTo : Deed → ℕ → Type 0
SendsTo done b =
    (message : Message) × (timeout : Timeout) × CallsBuffer done b (Send message timeout)

-- at each turn a receive from a buffer that is answered with a message gives the next one of the
-- buffer, and a send by which a process is woken with NO_ERROR hands it the message; and no other
-- event wakes a process that waits to receive with NO_ERROR
pub record GivesMessagesInOrder (table : Table) (before : Machine) : Type 0 where
  pub answered : (core b : ℕ) (timeout : Timeout) (message : Message) →
      let done = deed_of table before core in
      CallsBuffer done b (Receive timeout) → done.outcome.reply ≡ Gets message
      → IsGivenNext before.history done b message
  pub handed : (core b p : ℕ) (timeout : Timeout) (message : Message) →
      let done = deed_of table before core in
      CallsBuffer done b (Send message timeout) → Contains done.outcome.notices (Woken p NoError)
      → IsHandedOver before done b p message
  pub woken : (event : Event) (b p : ℕ) →
      let done = deed table (situation_of table before) event in
      (record_at before.roster p).wait ≡ Some (wait.Receive b)
      → Contains done.outcome.notices (Woken p NoError) → SendsTo done b

-- in every run the receives from each buffer give its messages in the order in which they were sent
abbrev pub MessagesComeInOrder : Table → Type 0
MessagesComeInOrder table =
    (events : List Event) → GivesMessagesInOrder table (run table (opening table) events)
