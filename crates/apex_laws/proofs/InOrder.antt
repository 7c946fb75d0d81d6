-- The receives from a buffer give its messages in the order in which they were sent.
use Rattle.std.proofs.Common.{◌≡◌, ℕ, zero, suc, ◌+◌, ◌<◌, ◌≤◌, Bool, true, false, not, nat_lt, drop, length, List, [], ◌∷◌, Option, None, Some, refl, sym, ◌∙◌, ap, subst, arith, length-append, inl, inr}
use Rattle.std.specs.Prelude.{Contains, slice_get, slice_index_or}
use Rattle.std.proofs.lemmas.Bool.{cases_lt, cond_both}
use Rattle.std.proofs.lemmas.List.{get_or_past, length-set}
use Rattle.apex_laws.specs.Delivery.{GivesMessagesInOrder, HasReceived, IsGivenNext, IsHandedOver, receives_from, sent_to}
use Rattle.apex_laws.specs.Terms.{Caller, Entry, Message, Record, ReturnCode, Timeout}
use Rattle.apex_types.specs.declared.calls.BufferService.TheVariants.{Send, Receive}
use Rattle.apex_types.specs.declared.calls.Call.TheVariants.{Buffer}
use Rattle.apex_types.specs.declared.calls.ObjectCall.TheVariants.{KindService}
use Rattle.apex_types.specs.declared.calls.Timeout.TheVariants.{Poll, Ticks, Infinite}
use Rattle.apex_types.specs.declared.entries.Caller.TheVariants.{Process}
use Rattle.apex_types.specs.declared.entries.Notice.TheVariants.{Woken}
use Rattle.apex_types.specs.declared.entries.Reply.TheVariants.{Message as Gets}
use Rattle.apex_types.specs.declared.entries.ReturnCode.TheVariants.{NoError}
use Rattle.apex_machine.specs.declared.records.Queue.TheVariants as queues
use Rattle.apex_machine.specs.declared.records.Wait.TheVariants as wait
use Rattle.apex_machine.specs.Deeds.{Deed, Objects}
use Rattle.apex_machine.specs.Machine.{Machine, deed_of, objects_after, open_work, situation_of}
use Rattle.apex_machine.specs.Situations.{due_call}
use Rattle.apex_machine.specs.processes.Roster.{Roster, record_at}
use Rattle.apex_machine.specs.processes.Stamps.{awake, receive, unblock}
use Rattle.apex_machine.specs.processes.Waiters.{first_waiter}
use Rattle.apex_machine.specs.processes.Owners.{is_waiting_owner}
use Rattle.apex_machine.specs.services.BufferServices.{BufferObject, buffer_after, buffer_kind, held_back, is_receiver, receive_buffer, receive_first, received, send_buffer, send_last, send_past, take_in}
use Rattle.apex_machine.specs.services.Rows.{Outcome, refused}
use Rattle.apex_machine.specs.services.Satisfied.{buffer_content, is_no_error}
use Rattle.apex_machine.specs.services.Waiting.{wait_for}
use Rattle.apex_machine.specs.services.Waking.{woken}
use Rattle.apex_machine.specs.table.Table.{IsLawful, Table, buffer_config, no_buffer}
use Rattle.apex_types.specs.Messages.{is_unfit}
use Rattle.apex_types.proofs.Places.{get_or-map_places, length-map_places}
use Rattle.apex_machine.proofs.Replaces.{each_stays, replaces_readied}
use Rattle.apex_machine.proofs.Rosters.{at_record}
use Rattle.apex_machine.proofs.Rows.{by_caller, by_guard}
use Rattle.apex_machine.proofs.Starts.{first_within}
use Rattle.apex_laws.proofs.AskedWaits.{first_awaits}
use Rattle.apex_laws.proofs.BuffersServe.{receiver_wait}
use Rattle.apex_laws.proofs.CallsServe.{AreKept}
use Rattle.apex_laws.proofs.InVain.{none_in_vain}
use Rattle.apex_laws.proofs.Sound.{IsSound, owes}
use Rattle.apex_laws.proofs.CarriedOut.{IsCarriedOut, nothing, one_turn, only}
use Rattle.apex_laws.proofs.WokenToReceive.{woken_event}

-- a message that a process received stays in its inbox when a process wakes
received_still : (roster : Roster) (q : ℕ) → q < length roster.records → (p : ℕ) (message : Message) → HasReceived roster p message
    → HasReceived (unblock roster q) p message
received_still roster q known p message h =
    each_stays (replaces_readied roster q known (awake (record_at roster q)) refl) (λ s t. t.inbox ≡ s.inbox) (λ _. refl) refl p ∙ h

received_now : (roster : Roster) (p : ℕ) → p < length roster.records → (message : Message) → HasReceived (receive roster p message) p message
received_now roster p known message =
    let r : Record = record (record_at roster p) { inbox = Some message } in
    ap (λ (s : Record). s.inbox) (at_record roster p known r)

not_false : (b : Bool) → not b ≡ false → b ≡ true
not_false true e = refl
not_false false e = cc

-- a service of buffer b
module _ (left : Roster) (buffer : BufferObject) (b : ℕ) (caller : Caller) (message : Message) (timeout : Timeout) where
  abbrev at_b : Option ℕ
  at_b = first_waiter left (queues.Buffer b)

  -- a receive that is answered with a message takes the first one of the buffer
  record Takes (o : Outcome BufferObject) : Type 0 where
    later : List Message
    first : buffer.messages ≡ message ∷ later
    received : (p : ℕ) → caller ≡ Process p → HasReceived o.roster p message

  abbrev TakesIf : Outcome BufferObject → Type 0
  TakesIf o = o.reply ≡ Gets message → Takes o

  takes_refused : (code : ReturnCode) → is_no_error code ≡ false → TakesIf (refused left buffer code)
  takes_refused code bad e = cc

  module _ (known : (p : ℕ) → caller ≡ Process p → p < length left.records) where
    module _ (p : ℕ) (by : caller ≡ Process p) where
      module _ (first : Message) (later : List Message) (holds : buffer.messages ≡ first ∷ later) where
        abbrev after : Roster
        after = receive left p first

        takes_it : (o : Outcome BufferObject) → o.reply ≡ Gets first → ((k : ℕ) (m : Message) → HasReceived after k m → HasReceived o.roster k m)
            → TakesIf o
        takes_it o gets still e =
            let same : first ≡ message = cc in
            record {
              later = later;
              first = holds ∙ ap (λ (m : Message). m ∷ later) same;
              received = λ k of_k.
                  let one : p ≡ k = cc in
                  rw (← one, ← same) (still p first (received_now left p (known p by) first));
            }

        takes_in : (q : ℕ) → first_waiter after (queues.Buffer b) ≡ Some q → (sent : Option Message)
            → TakesIf (take_in after (record buffer { messages = later }) first q sent)
        takes_in q is None = takes_it _ refl (λ k m h. h)
        takes_in q is (Some sent) =
            takes_it _ refl (received_still after q (first_within after (queues.Buffer b) q is))

        takes_first : (found : Option ℕ) → first_waiter after (queues.Buffer b) ≡ found
            → TakesIf (received after (record buffer { messages = later }) first found)
        takes_first None is = takes_it _ refl (λ k m h. h)
        takes_first (Some q) is = takes_in q is (held_back (record_at after q).wait)

      takes_none : (t : Timeout) → TakesIf (wait_for left buffer p (wait.Receive b) t)
      takes_none Poll e = cc
      takes_none (Ticks n) e = cc
      takes_none Infinite e = cc

      takes_messages : (messages : List Message) → buffer.messages ≡ messages → TakesIf (receive_first left buffer b p timeout messages)
      takes_messages [] is = takes_none timeout
      takes_messages (first ∷ later) is =
          takes_first first later is (first_waiter (receive left p first) (queues.Buffer b)) refl

    takes : TakesIf (receive_buffer left buffer b caller timeout)
    takes =
        let rule = by_guard left buffer TakesIf takes_refused in
        rule (not buffer.created) _ _ refl (λ _.
        rule (is_waiting_owner left caller timeout) _ _ refl (λ _.
        by_caller left buffer TakesIf takes_refused caller _ (λ p by. takes_messages p by buffer.messages refl)))

  -- a send that wakes process p with NO_ERROR hands it the message
  module _ (p : ℕ) where
    record Hands (o : Outcome BufferObject) : Type 0 where
      first : at_b ≡ Some p
      receives : is_receiver (record_at left p).wait ≡ true
      received : HasReceived o.roster p message

    abbrev HandsIf : Outcome BufferObject → Type 0
    HandsIf o = Contains o.notices (Woken p NoError) → (buffer.created ≡ true) × Hands o

    hands_refused : (code : ReturnCode) → is_no_error code ≡ false → HandsIf (refused left buffer code)
    hands_refused code bad told = absurd (nothing _ told)

    module _ (created : buffer.created ≡ true) where
      hands_waiting : (k : ℕ) (t : Timeout) → HandsIf (wait_for left buffer k (wait.Send b message) t)
      hands_waiting k Poll told = absurd (nothing _ told)
      hands_waiting k (Ticks n) told = absurd (nothing _ told)
      hands_waiting k Infinite told = absurd (nothing _ told)

      hands_last : (k : ℕ) → HandsIf (send_last left buffer b k message timeout)
      hands_last k =
          cond_both {A = Outcome BufferObject} (nat_lt (length buffer.messages) buffer.capacity) _ _ HandsIf
          (λ _ told. absurd (nothing _ told)) (λ _. hands_waiting k timeout)

      hands_past : (k : ℕ) (found : Option ℕ) → at_b ≡ found → HandsIf (send_past left buffer b k message timeout found)
      hands_past k None is = hands_last k
      hands_past k (Some q) is =
          cond_both {A = Outcome BufferObject} (is_receiver (record_at left q).wait) _ _ HandsIf
          (λ receives told.
          let woken_one = only (Woken q NoError) (Woken p NoError) told in
          let same : q ≡ p = cc in
          let known = first_within left (queues.Buffer b) q is in
          let after = receive left q message in
          let r : Record = record (record_at left q) { inbox = Some message } in
          let many : q < length after.records = rw (length-set left.records q r) known in (
            created,
            rw (← same) (record {
              first = is;
              receives = receives;
              received = received_still after q many q message (received_now left q known message);
            }),
          ))
          (λ _. hands_last k)

    hands : HandsIf (send_buffer left buffer b caller message timeout)
    hands =
        let rule = by_guard left buffer HandsIf hands_refused in
        rule (not buffer.created) _ _ refl (λ made.
        rule (is_unfit buffer.longest message) _ _ refl (λ _.
        rule (is_waiting_owner left caller timeout) _ _ refl (λ _.
        by_caller left buffer HandsIf hands_refused caller _
        (λ k by. hands_past (not_false _ made) k at_b refl))))

-- the first of the messages that are left after the first n
first_left : (n : ℕ) (messages : List Message) (message : Message) (later : List Message) → drop n messages ≡ message ∷ later
    → slice_get messages n ≡ Some message
first_left zero [] message later is = cc
first_left zero (m ∷ messages) message later is = let same : m ≡ message = cc in ap Some same
first_left (suc n) [] message later is = cc
first_left (suc n) (m ∷ messages) message later is = first_left n messages message later is

module _ (table : Table) (machine : Machine) (kept : AreKept table machine.roster machine.history) (b : ℕ) where
  abbrev history : List Entry
  history = machine.history

  abbrev objects : Objects
  objects = objects_after table history

  abbrev buffer : BufferObject
  buffer = slice_index_or objects.buffers b buffer_kind.absent

  -- a buffer of the table is the one that the history gives, and any other is absent
  in_table : b < length table.buffers → buffer ≡ buffer_after history b (buffer_config table b)
  in_table inside =
      let z : 0 + b ≡ b = omega arith in
      get_or-map_places (buffer_after history) 0 table.buffers b no_buffer buffer_kind.absent inside ∙ rw z refl

  past_table : length table.buffers ≤ b → buffer ≡ buffer_kind.absent
  past_table past =
      let many = length-map_places (buffer_after history) 0 table.buffers in
      get_or_past objects.buffers b buffer_kind.absent (omega (arith, past, many))

  module _ (deed : Deed) (message : Message) (timeout : Timeout) where
    given_next : IsCarriedOut machine.roster objects deed (Buffer (KindService b (Receive timeout))) → deed.outcome.reply ≡ Gets message
        → IsGivenNext history deed b message
    given_next done gets =
        let reply = ap (λ (d : Deed). d.outcome.reply) (sym done.is) ∙ gets in
        let taken = takes done.left buffer b deed.caller message timeout done.known reply in
        record {
          next = elim (cases_lt b (length table.buffers)) [
            | inl inside ↦
                let content = ap (λ (x : BufferObject). x.messages) (sym (in_table inside)) ∙ taken.first in
                first_left (receives_from b history) (sent_to b history) message taken.later content
            | inr past ↦ let none : [] ≡ message ∷ taken.later = ap (λ (x : BufferObject). x.messages) (sym (past_table past)) ∙ taken.first in cc
          ];
          received = λ p by.
              subst (λ (roster : Roster). HasReceived roster p message) (ap (λ (d : Deed). d.outcome.roster) (sym done.is)) (taken.received p by);
        }

    handed_over : (p : ℕ) → IsCarriedOut machine.roster objects deed (Buffer (KindService b (Send message timeout)))
        → Contains deed.outcome.notices (Woken p NoError) → IsHandedOver machine deed b p message
    handed_over p done told =
        let noted = subst (λ (d : Deed). Contains d.outcome.notices (Woken p NoError)) done.is told in
        let given = hands done.left buffer b deed.caller message timeout p noted in
        let first = first_awaits done.left (queues.Buffer b) p refl given.1.first in
        let same = receiver_wait b first.0 first.1.queued (ap is_receiver (sym first.1.waits) ∙ given.1.receives) in
        let waited : (record_at machine.roster p).wait ≡ Some (wait.Receive b) =
        sym (done.waits p) ∙ first.1.waits ∙ ap Some same in
        record {
          waited = waited;
          none_before = elim (cases_lt b (length table.buffers)) [
            | inl inside ↦
                let empty = ((none_in_vain table machine kept).buffers b inside).receivers p waited in
                let delivered = (kept.buffers b inside).holds.delivered in
                let sent = ap (λ (messages : List Message). length messages) delivered.split in
                let longer = length-append delivered.taken (buffer_content b history) in
                let none = ap (λ (messages : List Message). length messages) empty in
                omega (arith, delivered.many, sent, longer, none)
            | inr past ↦ let clash : false ≡ true = ap (λ (x : BufferObject). x.created) (sym (past_table past)) ∙ given.0 in cc
          ];
          received = subst (λ (roster : Roster). HasReceived roster p message) (ap (λ (d : Deed). d.outcome.roster) (sym done.is)) given.1.received;
        }

pub gives_in_order : (table : Table) → IsLawful table → (machine : Machine) → IsSound table machine → GivesMessagesInOrder table machine
gives_in_order table lawful machine sound =
    let kept = sound.orderly.kept in
    record {
      answered = λ core b timeout message calls gets.
          given_next table machine kept b (deed_of table machine core) message timeout
          (one_turn table machine.roster (objects_after table machine.history) _ refl core (open_work machine core)
          (due_call table (situation_of table machine) core) calls)
          gets;
      handed = λ core b p timeout message calls told.
          handed_over table machine kept b (deed_of table machine core) message timeout p
          (one_turn table machine.roster (objects_after table machine.history) _ refl core (open_work machine core)
          (due_call table (situation_of table machine) core) calls)
          told;
      woken = λ event b p waits told. woken_event table machine b p waits event (owes table lawful machine sound event) told;
    }
