-- A process that waits to receive from a buffer is woken with NO_ERROR only by a send to it.
use Rattle.std.proofs.Common.{◌≡◌, ℕ, zero, suc, ◌<◌, Bool, true, false, not, length, List, [], ◌∷◌, Option, None, Some, refl, sym, ◌∙◌, ap, subst, arith, inl, inr}
use Rattle.std.specs.Option.{option_and_then}
use Rattle.std.specs.List.{list_any}
use Rattle.std.specs.Prelude.{Contains, option_map, slice_index_or}
use Rattle.std.proofs.lemmas.Bool.{eq-eqb}
use Rattle.std.proofs.lemmas.Option.{none-some, same_Some}
use Rattle.apex_laws.specs.Delivery.{SendsTo}
use Rattle.apex_laws.specs.Terms.{BufferService, Call, Caller, Event, Message, Notice, ObjectCall, Queue, Record, ReturnCode, Timeout, Wait}
use Rattle.apex_types.specs.declared.calls.BufferService.TheVariants.{Send, Receive}
use Rattle.apex_types.specs.declared.calls.Call.TheVariants.{Blackboard, Buffer, EventFlag, Mutex, Semaphore}
use Rattle.apex_types.specs.declared.calls.ObjectCall.TheVariants.{Create, GetId, GetStatus, KindService}
use Rattle.apex_types.specs.declared.calls.Timeout.TheVariants.{Poll, Ticks, Infinite}
use Rattle.apex_types.specs.declared.entries.Caller.TheVariants.{Process}
use Rattle.apex_types.specs.declared.entries.Event.TheVariants.{Turn, Tick}
use Rattle.apex_types.specs.declared.entries.Notice.TheVariants.{Woken}
use Rattle.apex_types.specs.declared.entries.ReturnCode.TheVariants.{NoError}
use Rattle.apex_machine.specs.declared.records.Queue.TheVariants as queues
use Rattle.apex_machine.specs.declared.records.Wait.TheVariants as wait
use Rattle.apex_machine.specs.Deeds.{Deed, Objects, tick_deed}
use Rattle.apex_machine.specs.Machine.{Machine, deed_of, objects_after, open_work, situation_of}
use Rattle.apex_machine.specs.Situations.{deed, due_call}
use Rattle.apex_machine.specs.processes.Queues.{queue_of}
use Rattle.apex_machine.specs.processes.Roster.{Roster, record_at}
use Rattle.apex_machine.specs.processes.Stamps.{advance_to, receive}
use Rattle.apex_machine.specs.processes.Waiters.{first_waiter}
use Rattle.apex_machine.specs.processes.Owners.{is_waiting_owner}
use Rattle.apex_machine.specs.services.BufferServices.{BufferObject, buffer_kind, held_back, receive_buffer, receive_first, received, take_in}
use Rattle.apex_machine.specs.services.Calls.{queue_named}
use Rattle.apex_machine.specs.services.Objects.{create, deed_at, get_id, get_status, object_service}
use Rattle.apex_machine.specs.services.Rows.{Outcome, refused}
use Rattle.apex_machine.specs.services.Satisfied.{is_no_error}
use Rattle.apex_machine.specs.services.Waiting.{wait_for}
use Rattle.apex_machine.specs.services.Waking.{woken}
use Rattle.apex_machine.specs.table.Table.{Table}
use Rattle.apex_types.specs.Calls.{object_of}
use Rattle.apex_types.specs.Modes.{is_normal}
use Rattle.apex_machine.proofs.Replaces.{each_stays, replaces_record}
use Rattle.apex_machine.proofs.Rows.{by_caller, by_guard}
use Rattle.apex_laws.proofs.InVain.{asked_for}
use Rattle.apex_laws.proofs.Satisfied.{WokenBy, is_waking, wakes}
use Rattle.apex_laws.proofs.Sound.{instant_of, who_of}
use Rattle.apex_laws.proofs.Truths.{or_true}
use Rattle.apex_laws.proofs.Turns.{Owes}
use Rattle.apex_laws.proofs.CarriedOut.{IsCarriedOut, nothing, one_turn, only}

-- an element of a list at which the test gives true
list_any-contains : {X : Type 0} (passes : X → Bool) (xs : List X) (x : X) → Contains xs x → passes x ≡ true → list_any passes xs ≡ true
list_any-contains passes [] x (k, below, is) e = absurd (omega (arith, below))
list_any-contains passes (y ∷ ys) x (zero, below, is) e =
    let here : passes y ≡ true = ap passes is ∙ e in rw here refl
list_any-contains passes (y ∷ ys) x (suc k, below, is) e =
    let rest = list_any-contains passes ys x (k, omega (arith, below), is) e in
    rw rest (or_true (passes y))

-- a call that names buffer b is one on it
queue_of_other : (queue : ℕ → Queue) (b : ℕ) → ((i : ℕ) → queue i ≡ queues.Buffer b → ⊥) → (object : Option ℕ)
    → option_map queue object ≡ Some (queues.Buffer b) → ⊥
queue_of_other queue b other None is = none-some _ is
queue_of_other queue b other (Some i) is = other i (same_Some (queue i) (queues.Buffer b) is)

named_object : (b : ℕ) (object : Option ℕ) → option_map queues.Buffer object ≡ Some (queues.Buffer b) → object ≡ Some b
named_object b None is = absurd (none-some _ is)
named_object b (Some i) is = let same : i ≡ b = cc in ap Some same

on_buffer : (b : ℕ) (called : Option Call) → option_and_then queue_named called ≡ Some (queues.Buffer b)
    → (call : ObjectCall ℕ BufferService) × (called ≡ Some (Buffer call)) × (object_of call ≡ Some b)
on_buffer b None is = absurd (none-some _ is)
on_buffer b (Some (Buffer call)) is = (call, refl, named_object b (object_of call) is)
on_buffer b (Some (Semaphore call)) is = absurd (queue_of_other queues.Semaphore b (λ i e. cc) (object_of call) is)
on_buffer b (Some (Blackboard call)) is = absurd (queue_of_other queues.Blackboard b (λ i e. cc) (object_of call) is)
on_buffer b (Some (EventFlag call)) is = absurd (queue_of_other queues.EventFlag b (λ i e. cc) (object_of call) is)
on_buffer b (Some (Mutex call)) is = absurd (queue_of_other queues.Mutex b (λ i e. cc) (object_of call) is)
on_buffer b (Some _) is = absurd (none-some _ is)

-- a notice that wakes a process wakes it
wakes_told : (p : ℕ) (notices : List Notice) → Contains notices (Woken p NoError) → wakes p notices ≡ true
wakes_told p notices told = list_any-contains (is_waking p) notices (Woken p NoError) told (rw (eq-eqb p p refl) refl)

-- a process that waits to receive, and is woken with NO_ERROR
module _ (table : Table) (machine : Machine) (b p : ℕ) (waits : (record_at machine.roster p).wait ≡ Some (wait.Receive b)) where
  abbrev objects_now : Objects
  objects_now = objects_after table machine.history

  -- is woken by a call on the buffer
  woken_from : (called : Option Call) → WokenBy called (record_at machine.roster p)
      → option_and_then queue_named called ≡ Some (queues.Buffer b)
  woken_from called woken =
      let asked = asked_for (record_at machine.roster p) (wait.Receive b) waits refl in
      woken.2 (queues.Buffer b) (elim woken.1 [
        | inl stands ↦
            let same = same_Some stands.0 (wait.Receive b) (sym stands.1 ∙ asked) in
            sym stands.2 ∙ ap queue_of same
        | inr stands ↦
            let same = same_Some stands.1.0 (wait.Receive b) (sym stands.1.1 ∙ asked) in
            let clash : Some (queues.Buffer b) ≡ Some (queues.Mutex stands.0) = ap queue_of (sym same) ∙ stands.1.2 in
            cc
      ])

  module _ (left : Roster) (stays : (record_at left p).wait ≡ (record_at machine.roster p).wait) (caller : Caller)
      (known : (k : ℕ) → caller ≡ Process k → k < length left.records) (buffer : BufferObject) where
    -- an outcome that wakes it so is impossible
    abbrev LeavesIt : Outcome BufferObject → Type 0
    LeavesIt o = Contains o.notices (Woken p NoError) → ⊥

    leaves_refused : (code : ReturnCode) → is_no_error code ≡ false → LeavesIt (refused left buffer code)
    leaves_refused code bad = nothing _

    module _ (k : ℕ) (by : caller ≡ Process k) (first : Message) (later : List Message) where
      abbrev after_first : Roster
      after_first = receive left k first

      -- a receive wakes only senders
      leaves_sender : (q : ℕ) (sent : Option Message) → held_back (record_at after_first q).wait ≡ sent
          → LeavesIt (take_in after_first (record buffer { messages = later }) first q sent)
      leaves_sender q None is told = nothing _ told
      leaves_sender q (Some sent) is told =
          let woken_one = only (Woken q NoError) (Woken p NoError) told in
          let same : q ≡ p = cc in
          let r : Record = record (record_at left k) { inbox = Some first } in
          let still = each_stays (replaces_record left k (known k by) r refl 0) (λ s t. t.wait ≡ s.wait) (λ _. refl) refl p in
          let receives : (record_at after_first p).wait ≡ Some (wait.Receive b) = still ∙ stays ∙ waits in
          let none : held_back (record_at after_first p).wait ≡ None = ap held_back receives in
          none-some sent (sym none ∙ rw same at is)

      leaves_first : (found : Option ℕ) → LeavesIt (received after_first (record buffer { messages = later }) first found)
      leaves_first None = nothing _
      leaves_first (Some q) = leaves_sender q (held_back (record_at after_first q).wait) refl

    leaves_waiting : (k : ℕ) (w : Wait) (t : Timeout) → LeavesIt (wait_for left buffer k w t)
    leaves_waiting k w Poll = nothing _
    leaves_waiting k w (Ticks n) = nothing _
    leaves_waiting k w Infinite = nothing _

    leaves_messages : (k : ℕ) → caller ≡ Process k → (timeout : Timeout) (messages : List Message)
        → LeavesIt (receive_first left buffer b k timeout messages)
    leaves_messages k by timeout [] = leaves_waiting k (wait.Receive b) timeout
    leaves_messages k by timeout (first ∷ later) =
        leaves_first k by first later (first_waiter (receive left k first) (queues.Buffer b))

    leaves_receive : (timeout : Timeout) → LeavesIt (receive_buffer left buffer b caller timeout)
    leaves_receive timeout =
        let rule = by_guard left buffer LeavesIt leaves_refused in
        rule (not buffer.created) _ _ refl (λ _.
        rule (is_waiting_owner left caller timeout) _ _ refl (λ _.
        by_caller left buffer LeavesIt leaves_refused caller _ (λ k by. leaves_messages k by timeout buffer.messages)))

    -- nor does a service that each kind has
    leaves_create : LeavesIt (create buffer_kind left buffer)
    leaves_create =
        let rule = by_guard left buffer LeavesIt leaves_refused in
        rule (is_normal left.mode) _ _ refl (λ _. rule buffer.created _ _ refl (λ _. nothing _))

    leaves_get_id : LeavesIt (get_id buffer_kind left buffer b)
    leaves_get_id = by_guard left buffer LeavesIt leaves_refused (not buffer.created) _ _ refl (λ _. nothing _)

    leaves_get_status : LeavesIt (get_status buffer_kind left buffer b)
    leaves_get_status = by_guard left buffer LeavesIt leaves_refused (not buffer.created) _ _ refl (λ _. nothing _)

    -- so it is a send
    woken_send : (call : ObjectCall ℕ BufferService) → Contains (object_service buffer_kind left buffer b caller call).notices (Woken p NoError)
        → object_of call ≡ Some b → (message : Message) × (timeout : Timeout) × (call ≡ KindService b (Send message timeout))
    woken_send (Create named) told is = absurd (leaves_create told)
    woken_send (GetId named) told is = absurd (leaves_get_id told)
    woken_send (GetStatus i) told is = absurd (leaves_get_status told)
    woken_send (KindService i (Receive timeout)) told is = absurd (leaves_receive timeout told)
    woken_send (KindService i (Send message timeout)) told is =
        let same = same_Some i b is in (message, timeout, ap (λ (k : ℕ). KindService k (Send message timeout)) same)

  -- a turn
  woken_turn : (done : Deed) (call : ObjectCall ℕ BufferService) → done.call ≡ Some (Buffer call) → object_of call ≡ Some b
      → IsCarriedOut machine.roster objects_now done (Buffer call) → Contains done.outcome.notices (Woken p NoError) → SendsTo done b
  woken_turn done call calls is out told =
      let noted = subst (λ (d : Deed). Contains d.outcome.notices (Woken p NoError)) out.is told in
      let there = subst (λ (target : Option ℕ).
      Contains (deed_at buffer_kind out.left objects_now.buffers done.caller call target).notices (Woken p NoError)) is noted in
      let sends = woken_send out.left (out.waits p) done.caller out.known (slice_index_or objects_now.buffers b buffer_kind.absent) call there is in
      (sends.0, sends.1, calls ∙ ap (λ (c : ObjectCall ℕ BufferService). Some (Buffer c)) sends.2)

  pub woken_event : (event : Event) → let done = deed table (situation_of table machine) event in
      Owes table machine.history (advance_to machine.roster (instant_of machine.roster event)) (who_of event) done
      → Contains done.outcome.notices (Woken p NoError) → SendsTo done b
  woken_event (Turn core) due told =
      let done = deed_of table machine core in
      let named = woken_from done.call (due.woken p (wakes_told p done.outcome.notices told)) in
      let call = on_buffer b done.call named in
      woken_turn done call.0 call.1 call.2
      (one_turn table machine.roster objects_now (Buffer call.0) refl core (open_work machine core)
      (due_call table (situation_of table machine) core) call.1)
      told
  woken_event (Tick n) due told =
      let done = tick_deed machine.roster objects_now n in
      absurd (none-some _ (woken_from None (due.woken p (wakes_told p done.outcome.notices told))))
