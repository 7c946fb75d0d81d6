-- Buffers: the facts that their services keep, and the effect of an entry on them.
use Rattle.std.proofs.Common.{◌≡◌, ℕ, ◌+◌, ◌<◌, ◌≤◌, true, false, not, nat_lt, filter, drop, count_by, List, [], ◌∷◌, ◌++◌, length, Option, None, Some, lit≤, refl, sym, ◌∙◌, ap, subst, arith, append_assoc, length-append, inl}
use Rattle.std.specs.List.{filter_map}
use Rattle.std.proofs.lemmas.Bool.{both_ways, cond_both, eq-eqb, ltb-true, ltb-false}
use Rattle.std.proofs.lemmas.List.Elements.{All-nil, All-cons}
use Rattle.std.proofs.lemmas.Option.{none-some, same_Some}
use Rattle.apex_laws.specs.Terms.{BufferService, Call, Entry, Message, Queue, Record, Timeout, Wait}
use Rattle.apex_types.specs.declared.calls.BufferService.TheVariants as service
use Rattle.apex_types.specs.declared.calls.Call.TheVariants as call
use Rattle.apex_types.specs.declared.entries.Caller.TheVariants.{Process}
use Rattle.apex_types.specs.declared.calls.Named.TheVariants.{Known}
use Rattle.apex_types.specs.declared.calls.ObjectCall.TheVariants.{Create, KindService}
use Rattle.apex_machine.specs.declared.records.Queue.TheVariants as queues
use Rattle.apex_types.specs.declared.entries.Reply.TheVariants.{Code, Message as Gets}
use Rattle.apex_types.specs.declared.entries.ReturnCode.TheVariants.{NoError}
use Rattle.apex_machine.specs.declared.records.Wait.TheVariants.{Receive, Send}
use Rattle.apex_machine.specs.services.BufferServices.{BufferObject, buffer_kind, buffer_service, held_back, is_receiver, receive_first, received, send_last, send_past, take_in, with_last}
use Rattle.apex_types.specs.Calls.{object_of}
use Rattle.apex_machine.specs.services.Calls.{created_buffer, is_receive, names, sent_message}
use Rattle.apex_machine.specs.services.Callers.{IsReady}
use Rattle.apex_types.specs.Messages.{is_unfit}
use Rattle.apex_machine.specs.processes.Queues.{queue_of}
use Rattle.apex_machine.specs.processes.Owners.{is_waiting_owner}
use Rattle.apex_machine.specs.processes.Roster.{Roster, record_at}
use Rattle.apex_machine.specs.services.Rows.{Outcome, replied, accepted_with, answered_with}
use Rattle.apex_machine.specs.processes.Stamps.{receive}
use Rattle.apex_machine.specs.table.Table.{BufferConfig, no_buffer}
use Rattle.apex_machine.specs.processes.Waiters.{first_waiter}
use Rattle.apex_machine.specs.services.Waking.{granted, woken}
use Rattle.apex_machine.proofs.Reaches.{reaches_receive, reaches_then}
use Rattle.apex_machine.proofs.Rows.{by_caller}
use Rattle.apex_machine.proofs.Waking.{none_waits, reach_granted}
use Rattle.apex_laws.specs.AskedWaits.{AreHeldBack, LacksMessage, awaited}
use Rattle.apex_laws.proofs.AskedWaits.{Frees, asks_freed, awaits_at, first_awaits, frees_granted, frees_moved, frees_then, held_nobody, held_still, still_freed, waits_in_queue}
use Rattle.apex_laws.proofs.Delivered.{IsDelivered, delivered_content, delivered_none, delivered_received, delivered_sent}
use Rattle.apex_laws.proofs.Satisfied.{begins_receive, begins_send, filter_all, handed_one, names_begun, woken_alone}
use Rattle.apex_laws.proofs.Serving.{few, serves_same, serves_freed, arrives_by}
use Rattle.apex_laws.proofs.ObjectsServe.{LawsOf, then_some}
use Rattle.apex_laws.proofs.Truths.{or_false, other}
use Rattle.apex_laws.proofs.WaitedServe.{Before, KeepsWaited, Served, Waited, after_calls, calls_before, guard, object_before, served_alone, served_refused, served_waiting, value_before, waited_laws}

-- no more messages are received than were sent, and a buffer holds no more than it has room for
pub record HoldsBuffer (entry : BufferConfig) (calls : List Call) (content : List Message) : Type 0 where
  pub delivered : IsDelivered calls content
  pub fits : length content ≤ entry.capacity

-- a process that waits for a buffer waits for what is not there
abbrev pub waited_buffer : Waited buffer_kind
waited_buffer = record {
  V = List Message;
  to = call.Buffer;
  creation = created_buffer;
  nothing = no_buffer;
  queue = queues.Buffer;
  value = λ config calls. drop (count_by is_receive calls) (filter_map sent_message calls);
  Holds = HoldsBuffer;
  Lacks = λ config content. LacksMessage config.capacity content;
  object = λ config created content. record { longest = config.length; capacity = config.capacity; created = created; messages = content };
  reads = λ config calls content holds. delivered_content holds.delivered;
  after = λ history b config. refl;
  made = λ config created content. refl;
  created = λ call. refl;
  named = λ call. then_some queues.Buffer (object_of call);
  differs = other;
  unlike = λ b m. refl;
  apart = λ b. refl;
  new = λ b config calls content holds. record {
    delivered = delivered_none calls content (call.Buffer (Create (Known b))) holds.delivered refl refl;
    fits = holds.fits;
  };
  status = λ roster x b. refl;
}

abbrev pub KeepsBuffer : Roster → List Entry → ℕ → BufferConfig → Type 0
KeepsBuffer = KeepsWaited waited_buffer

-- a process in the queue of buffer b receives, or sends
pub receiver_wait : (b : ℕ) (w : Wait) → queue_of w ≡ Some (queues.Buffer b) → is_receiver (Some w) ≡ true → w ≡ Receive b
receiver_wait b (Receive c) is h = let same : c ≡ b = cc in ap Receive same
receiver_wait b _ is h = cc

sender_wait : (b : ℕ) (w : Wait) → queue_of w ≡ Some (queues.Buffer b) → is_receiver (Some w) ≡ false → (message : Message) × (w ≡ Send b message)
sender_wait b (Send c message) is h = let same : c ≡ b = cc in (message, ap (λ (d : ℕ). Send d message) same)
sender_wait b _ is h = cc

held_wait : (b : ℕ) (w : Wait) (message : Message) → queue_of w ≡ Some (queues.Buffer b) → held_back (Some w) ≡ Some message → w ≡ Send b message
held_wait b (Send c given) message is h = let same : c ≡ b = cc in let sent : given ≡ message = cc in rw (same, sent) refl
held_wait b _ message is h = cc

unheld_wait : (b : ℕ) (w : Wait) → queue_of w ≡ Some (queues.Buffer b) → held_back (Some w) ≡ None → w ≡ Receive b
unheld_wait b (Receive c) is h = let same : c ≡ b = cc in ap Receive same
unheld_wait b _ is h = cc

-- if the room that the first message leaves is filled again, the other waiters wait on
lacks_on : (capacity : ℕ) (message : Message) (later content : List Message) → length content ≡ capacity
    → (w : Wait) → LacksMessage capacity (message ∷ later) w → LacksMessage capacity content w
lacks_on capacity message later content full (Receive b) lacks = cc
lacks_on capacity message later content full (Send b m) lacks = full
lacks_on capacity message later content full _ lacks = tt

module _ (here : Before waited_buffer) where
  abbrev roster : Roster
  roster = here.roster

  abbrev history : List Entry
  history = here.history

  abbrev config : BufferConfig
  config = here.c

  abbrev b : ℕ
  b = here.i

  abbrev at : Option Queue
  at = Some (queues.Buffer b)

  abbrev buffer : BufferObject
  buffer = object_before waited_buffer here

  abbrev content : List Message
  content = value_before waited_buffer here

  abbrev all_calls : List Call
  all_calls = calls_before waited_buffer here

  abbrev Lacks : Wait → Type 0
  Lacks = LacksMessage config.capacity content

  abbrev asks_for : BufferService → Call
  asks_for service = call.Buffer (KindService b service)

  abbrev Serves : BufferService → Outcome BufferObject → Type 0
  Serves service o = Served waited_buffer here service o

  -- two calls of it, one after the other
  both_named : (first second : Call) → names (queues.Buffer b) first ≡ true → names (queues.Buffer b) second ≡ true
      → filter (names (queues.Buffer b)) (first ∷ second ∷ []) ≡ first ∷ second ∷ []
  both_named first second one two =
      filter_all (names (queues.Buffer b)) true (first ∷ second ∷ [])
      (All-cons (λ c. names (queues.Buffer b) c ≡ true) first (second ∷ []) one
      (All-cons (λ c. names (queues.Buffer b) c ≡ true) second [] two (All-nil _)))

  -- a service by its process
  module _ (p : ℕ) (by : here.caller ≡ Process p) (ready : IsReady roster p) where
    -- SEND_BUFFER
    module _ (message : Message) (timeout : Timeout) where
      abbrev send : BufferService
      send = service.Send message timeout

      -- a receiver that waits gets the message: the buffer is empty then, and stays so
      served_receiver : (q : ℕ) → first_waiter roster (queues.Buffer b) ≡ Some q → is_receiver (record_at roster q).wait ≡ true
          → Serves send (accepted_with buffer (granted (Some message) roster q))
      served_receiver q is receives =
          let first = first_awaits roster (queues.Buffer b) q refl is in
          let w = first.0 in
          let stands = first.1 in
          let same : w ≡ Receive b = receiver_wait b w stands.queued (ap is_receiver (sym stands.waits) ∙ receives) in
          let empty : content ≡ [] = subst Lacks same (here.keeps.held q w stands.asked stands.queued) in
          let found = handed_one roster history q w here.asked stands.asked in
          let c = found.0 in
          let receive_so = begins_receive c b (found.2 ∙ ap Some same) in
          let named_so : names (queues.Buffer b) c ≡ true =
          names_begun (queues.Buffer b) at c (w, found.2, stands.queued) ∙ eq-eqb b b refl in
          let sends = asks_for send in
          let after = (granted (Some message) roster q).roster in
          let frees = frees_granted (Some message) roster q in
          let one : IsDelivered (all_calls ++ sends ∷ []) (message ∷ []) =
          subst (λ (held : List Message). IsDelivered (all_calls ++ sends ∷ []) (held ++ message ∷ [])) empty
          (delivered_sent all_calls content sends message here.keeps.holds.delivered refl refl) in
          let two : IsDelivered (all_calls ++ sends ∷ c ∷ []) [] =
          subst (λ (calls : List Call). IsDelivered calls []) (append_assoc all_calls (sends ∷ []) (c ∷ []))
          (delivered_received (all_calls ++ sends ∷ []) message [] c one receive_so.0 receive_so.1) in
          record {
            serves = record {
              arrives = few (reach_granted (Some message) roster q (queues.Buffer b) refl here.scene.starts is);
              asks = asks_freed here.caller (Some sends) roster after frees;
              woken = λ r waking. rw (woken_alone r q waking) (inl (awaits_at stands));
            };
            read = λ number now who. after_calls waited_buffer history _ b config after (sends ∷ c ∷ []) content buffer.created
                (rw found.1 (both_named sends c (eq-eqb b b refl) named_so)) (or_false buffer.created)
                (record { delivered = rw empty two; fits = here.keeps.holds.fits })
                (held_still Lacks (queues.Buffer b) roster after here.keeps.held (still_freed (queues.Buffer b) roster after frees));
          }

      -- if there is room and no receiver is first, no process waits
      nobody_waits : ((q : ℕ) → first_waiter roster (queues.Buffer b) ≡ Some q → is_receiver (record_at roster q).wait ≡ false)
          → length content < config.capacity → (q : ℕ) (w : Wait) → awaited (record_at roster q) ≡ Some w → queue_of w ≡ at → ⊥
      nobody_waits none room q w waits is = by_first (first_waiter roster (queues.Buffer b)) refl where
        by_first : (first : Option ℕ) → first_waiter roster (queues.Buffer b) ≡ first → ⊥
        by_first None e = both_ways _ (none_waits roster (queues.Buffer b) e q) (waits_in_queue (queues.Buffer b) (record_at roster q) w waits is)
        by_first (Some r) e =
            let first = first_awaits roster (queues.Buffer b) r refl e in
            let sends = sender_wait b first.0 first.1.queued (ap is_receiver (sym first.1.waits) ∙ none r e) in
            let full : length content ≡ config.capacity = subst Lacks sends.1 (here.keeps.held r first.0 first.1.asked first.1.queued) in
            omega (arith, full, room)

      -- it goes last if there is room
      served_last : ((q : ℕ) → first_waiter roster (queues.Buffer b) ≡ Some q → is_receiver (record_at roster q).wait ≡ false)
          → Serves send (send_last roster buffer b p message timeout)
      served_last none =
          cond_both {A = Outcome BufferObject} (nat_lt (length content) config.capacity) _ _ (Serves send)
          (λ less.
          let sends = asks_for send in
          let room : length content < config.capacity = ltb-true _ _ less in
          let longer = length-append content (message ∷ []) in
          served_alone waited_buffer here send roster (Code NoError) (content ++ message ∷ []) refl (serves_same roster here.caller sends at)
          (record {
            delivered = delivered_sent all_calls content sends message here.keeps.holds.delivered refl refl;
            fits = omega (arith, longer, room);
          })
          (λ q w waits is. absurd (nobody_waits none room q w waits is)))
          (λ full.
          let least : config.capacity ≤ length content = ltb-false _ _ full in
          served_waiting waited_buffer here p by ready send (Send b message) refl refl (λ m clash. cc) (omega (arith, least, here.keeps.holds.fits)) timeout)

      served_send : (first : Option ℕ) → first_waiter roster (queues.Buffer b) ≡ first
          → Serves send (send_past roster buffer b p message timeout first)
      served_send None is = served_last (λ q e. absurd (none-some q (sym is ∙ e)))
      served_send (Some q) is =
          cond_both {A = Outcome BufferObject} (is_receiver (record_at roster q).wait) _ _ (Serves send)
          (λ receives. served_receiver q is receives)
          (λ sends. served_last (λ r e. ap (λ (k : ℕ). is_receiver (record_at roster k).wait) (sym (same_Some q r (sym is ∙ e))) ∙ sends))

    -- RECEIVE_BUFFER, if this is the first message, and these are the later ones
    module _ (timeout : Timeout) (message : Message) (later : List Message) (holds : content ≡ message ∷ later) where
      abbrev receives : Call
      receives = asks_for (service.Receive timeout)

      abbrev after : Roster
      after = receive roster p message

      abbrev left : BufferObject
      left = record buffer { messages = later }

      frees_after : Frees roster after
      frees_after =
          let r : Record = record (record_at roster p) { inbox = Some message } in frees_moved roster after p r refl (λ w h. h)

      delivered_so : IsDelivered (all_calls ++ receives ∷ []) later
      delivered_so =
          delivered_received all_calls message later receives
          (subst (λ (held : List Message). IsDelivered all_calls held) holds here.keeps.holds.delivered) refl refl

      fits_so : length later + 1 ≤ config.capacity
      fits_so = omega (arith, rw holds at here.keeps.holds.fits)

      -- no process waits with a message
      served_unheld : AreHeldBack (LacksMessage config.capacity later) (queues.Buffer b) after
          → Serves (service.Receive timeout) (replied after left (Gets message))
      served_unheld =
          served_alone waited_buffer here (service.Receive timeout) after (Gets message) later refl
          (serves_freed roster here.caller receives at after []
          (arrives_by 0 (lit≤ tt) (reaches_receive roster p ready.known message)) frees_after (λ q. refl))
          (record { delivered = delivered_so; fits = omega (arith, fits_so) })

      -- the first waiter sends a message, which goes last
      served_sender : (q : ℕ) (sent : Message) → first_waiter after (queues.Buffer b) ≡ Some q → held_back (record_at after q).wait ≡ Some sent
          → Serves (service.Receive timeout) (answered_with (Gets message) (with_last left sent) (woken after q NoError))
      served_sender q sent is sends =
          let first = first_awaits after (queues.Buffer b) q refl is in
          let w = first.0 in
          let stands = first.1 in
          let same : w ≡ Send b sent = held_wait b w sent stands.queued (ap held_back (sym stands.waits) ∙ sends) in
          let before = frees_after.still q w stands.asked in
          let full : length content ≡ config.capacity = subst Lacks same (here.keeps.held q w before stands.queued) in
          let found = handed_one roster history q w here.asked before in
          let c = found.0 in
          let send_so = begins_send c b sent (found.2 ∙ ap Some same) in
          let named_so : names (queues.Buffer b) c ≡ true =
          names_begun (queues.Buffer b) at c (w, found.2, stands.queued) ∙ eq-eqb b b refl in
          let new = (woken after q NoError).roster in
          let frees = frees_then frees_after (frees_granted None after q) in
          let got = reaches_receive roster p ready.known message in
          let longer = length-append later (sent ∷ []) in
          let filled : length (later ++ sent ∷ []) ≡ config.capacity = omega (arith, longer, rw holds at full) in
          let two : IsDelivered (all_calls ++ receives ∷ c ∷ []) (later ++ sent ∷ []) =
          subst (λ (calls : List Call). IsDelivered calls (later ++ sent ∷ [])) (append_assoc all_calls (receives ∷ []) (c ∷ []))
          (delivered_sent (all_calls ++ receives ∷ []) later c sent delivered_so send_so.0 send_so.1) in
          record {
            serves = record {
              arrives = arrives_by 1 (lit≤ tt)
                  (reaches_then 0 1 got (reach_granted None after q (queues.Buffer b) refl (got.moves.starts here.scene.starts) is));
              asks = asks_freed here.caller (Some receives) roster new frees;
              woken = λ r waking. rw (woken_alone r q waking) (inl (w, before, stands.queued));
            };
            read = λ number now who. after_calls waited_buffer history _ b config new (receives ∷ c ∷ []) (later ++ sent ∷ []) buffer.created
                (rw found.1 (both_named receives c (eq-eqb b b refl) named_so)) (or_false buffer.created)
                (record { delivered = two; fits = omega (arith, filled) })
                (λ r v waits queued. lacks_on config.capacity message later (later ++ sent ∷ []) filled v
                (subst (λ (held : List Message). LacksMessage config.capacity held v) holds (here.keeps.held r v (frees.still r v waits) queued)));
          }

      -- no receiver waits if there is a message
      served_waiter : (q : ℕ) (sent : Option Message) → first_waiter after (queues.Buffer b) ≡ Some q → held_back (record_at after q).wait ≡ sent
          → Serves (service.Receive timeout) (take_in after left message q sent)
      served_waiter q None is none =
          let first = first_awaits after (queues.Buffer b) q refl is in
          let w = first.0 in
          let stands = first.1 in
          let same : w ≡ Receive b = unheld_wait b w stands.queued (ap held_back (sym stands.waits) ∙ none) in
          let empty : content ≡ [] = subst Lacks same (here.keeps.held q w (frees_after.still q w stands.asked) stands.queued) in
          let clash : message ∷ later ≡ [] = sym holds ∙ empty in cc
      served_waiter q (Some sent) is sends = served_sender q sent is sends

      served_received : (first : Option ℕ) → first_waiter after (queues.Buffer b) ≡ first
          → Serves (service.Receive timeout) (received after left message first)
      served_received None is =
          served_unheld (held_nobody (LacksMessage config.capacity later) (queues.Buffer b) after (none_waits after (queues.Buffer b) is))
      served_received (Some q) is = served_waiter q (held_back (record_at after q).wait) is refl

    served_receive : (timeout : Timeout) (messages : List Message) → content ≡ messages
        → Serves (service.Receive timeout) (receive_first roster buffer b p timeout messages)
    served_receive timeout [] is = served_waiting waited_buffer here p by ready (service.Receive timeout) (Receive b) refl refl (λ m clash. cc) is timeout
    served_receive timeout (message ∷ later) is =
        served_received timeout message later is (first_waiter (receive roster p message) (queues.Buffer b)) refl

  pub served_kind_service : (asked_for : BufferService) → Serves asked_for (buffer_service roster buffer b here.caller asked_for)
  served_kind_service (service.Send message timeout) =
      let send = service.Send message timeout in
      let rule = guard waited_buffer here send in
      rule (not buffer.created) _ _ refl (λ _.
      rule (is_unfit buffer.longest message) _ _ refl (λ _.
      rule (is_waiting_owner roster here.caller timeout) _ _ refl (λ _.
      by_caller roster buffer (Serves send) (served_refused waited_buffer here send) here.caller _
      (λ p by. served_send p by (rw by at here.scene.ready) message timeout (first_waiter roster (queues.Buffer b)) refl))))
  served_kind_service (service.Receive timeout) =
      let receives = service.Receive timeout in
      let rule = guard waited_buffer here receives in
      rule (not buffer.created) _ _ refl (λ _.
      rule (is_waiting_owner roster here.caller timeout) _ _ refl (λ _.
      by_caller roster buffer (Serves receives) (served_refused waited_buffer here receives) here.caller _
      (λ p by. served_receive p by (rw by at here.scene.ready) timeout content refl)))

-- buffers are objects of a kind
abbrev pub buffer_laws : LawsOf buffer_kind
buffer_laws = waited_laws waited_buffer served_kind_service
