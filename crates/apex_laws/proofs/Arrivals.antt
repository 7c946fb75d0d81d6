-- The roster at which a service arrives, and the number of the objects that it leaves, whatever
-- these hold: no history is asked for.
use Rattle.std.proofs.Common.{◌≡◌, ◌∙◌, ℕ, ◌<◌, ◌≤◌, ◌==◌, ◌||◌, ◌&&◌, Bool, true, false, cond, not, nat_lt, List, [], ◌∷◌, length, Option, None, Some, lit≤, refl, sym, subst, length-set}
use Rattle.std.proofs.lemmas.Bool.{cond_both, eq-eqb}
use Rattle.apex_types.specs.declared.calls.BlackboardService.TheVariants as blackboard
use Rattle.apex_types.specs.declared.calls.BufferService.TheVariants as buffer
use Rattle.apex_types.specs.declared.calls.Call.TheVariants as call
use Rattle.apex_types.specs.declared.calls.EventFlagService.TheVariants as event_flag
use Rattle.apex_types.specs.declared.calls.Named.TheVariants.{Known, Unknown}
use Rattle.apex_types.specs.declared.calls.ObjectCall.TheVariants.{Create, GetId, GetStatus, KindService}
use Rattle.apex_types.specs.declared.calls.SemaphoreService.TheVariants as semaphore
use Rattle.apex_types.specs.declared.calls.Timeout.TheVariants.{Poll, Ticks, Infinite}
use Rattle.apex_types.specs.declared.entries.Caller.TheVariants.{Process, Init, Nobody}
use Rattle.apex_types.specs.declared.entries.Reply.TheVariants.{Code, Message as Gets}
use Rattle.apex_types.specs.declared.entries.ReturnCode.TheVariants.{NoError, NoAction, InvalidParam, InvalidConfig, InvalidMode}
use Rattle.apex_types.specs.declared.entries.Who.TheVariants.{Ticker}
use Rattle.apex_types.specs.Calls.{object_of}
use Rattle.apex_types.specs.Messages.{is_unfit}
use Rattle.apex_types.specs.Modes.{is_normal}
use Rattle.apex_laws.specs.AskedWaits.{asked_of, begins}
use Rattle.apex_laws.specs.Premises.{AreOf, most_given}
use Rattle.apex_laws.specs.Terms.{BlackboardService, BufferService, Call, Caller, Entry, EventFlagService, Message, MutexService, ObjectCall, ProcessService, ReturnCode, SemaphoreService, Timeout, Wait}
use Rattle.apex_machine.specs.declared.records.Queue.TheVariants as queues
use Rattle.apex_machine.specs.declared.records.Wait.TheVariants as wait
use Rattle.apex_machine.specs.Deeds.{Objects, service, with_processes, with_semaphores, with_buffers, with_blackboards, with_event_flags, with_mutexes}
use Rattle.apex_machine.specs.History.{is_created}
use Rattle.apex_machine.specs.processes.Owners.{is_waiting_owner}
use Rattle.apex_machine.specs.processes.Roster.{Roster, record_at}
use Rattle.apex_machine.specs.processes.Stamps.{receive}
use Rattle.apex_machine.specs.processes.Waiters.{first_waiter}
use Rattle.apex_machine.specs.services.BlackboardServices.{BlackboardObject, blackboard_kind, blackboard_service, read_shown}
use Rattle.apex_machine.specs.services.BufferServices.{BufferObject, buffer_kind, buffer_service, held_back, is_receiver, receive_first, received, send_last, send_past, take_in, with_last}
use Rattle.apex_machine.specs.services.Callers.{IsReady}
use Rattle.apex_machine.specs.services.Calls.{created_mutex, created_process}
use Rattle.apex_machine.specs.services.EventFlagServices.{EventFlagObject, event_flag_kind, event_flag_service}
use Rattle.apex_machine.specs.services.MutexServices.{MutexObject, mutex_kind, mutex_service}
use Rattle.apex_machine.specs.services.Objects.{ObjectKind, deed_at, no_entry, object_deed, object_service}
use Rattle.apex_machine.specs.services.ProcessServices.{ProcessObject, process_kind, process_service}
use Rattle.apex_machine.specs.services.Rows.{Outcome, by_process, refused}
use Rattle.apex_machine.specs.services.Satisfied.{is_no_error}
use Rattle.apex_machine.specs.services.SemaphoreServices.{SemaphoreObject, semaphore_kind, semaphore_service, signal_to}
use Rattle.apex_machine.specs.services.Waiting.{wait_for}
use Rattle.apex_machine.specs.table.Table.{Table, IsKnown, IsKnownObject, no_mutex, no_process}
use Rattle.apex_machine.proofs.Reaches.{Arrives, arrives_of, reaches_none, reaches_receive, reaches_then}
use Rattle.apex_machine.proofs.Rows.{by_caller, by_guard}
use Rattle.apex_machine.proofs.Waking.{reach_grant_all, reach_granted}
use Rattle.apex_laws.proofs.MutexesServe as mutexes
use Rattle.apex_laws.proofs.OthersServe.{served_caller, served_partition, served_time}
use Rattle.apex_laws.proofs.ProcessesServe as processes
use Rattle.apex_laws.proofs.Serving.{Scene, arrives_by, arrives_by_each, few, serves_blocked}

-- a history in which this call was accepted
abbrev accepted : Call → List Entry
accepted asked = record {
  number = 1;
  now = 0;
  who = Ticker;
  process = Init;
  call = Some asked;
  reply = Code NoError;
  notices = [];
} ∷ []

module _ (roster : Roster) (caller : Caller) (scene : Scene roster caller) where
  abbrev Arrived : {X : Type 0} → Outcome X → Type 0
  Arrived outcome = Arrives most_given roster outcome.roster

  same : Arrives most_given roster roster
  same = arrives_of (reaches_none most_given roster)

  guard : {X : Type 0} (object : X) (holds : Bool) (code : ReturnCode) (rest : Outcome X) → is_no_error code ≡ false
      → (holds ≡ false → Arrived rest) → Arrived (cond holds (refused roster object code) rest)
  guard object = by_guard roster object Arrived (λ code bad. same)

  -- a service for a process that calls
  asked_by : {X : Type 0} (object : X) (effect : ℕ → Outcome X) → ((p : ℕ) → IsReady roster p → Arrived (effect p))
      → Arrived (by_process roster object caller effect)
  asked_by object effect serves =
      by_caller roster object Arrived (λ code bad. same) caller effect (λ p by. serves p (rw by at scene.ready))

  -- its process waits, for another thing than a mutex
  waits : {X : Type 0} (object : X) (p : ℕ) → IsReady roster p → (asked : Call) (w : Wait) → asked_of (Some w) ≡ Some w
      → begins asked ≡ Some w → ((m : ℕ) → Some w ≡ Some (wait.Mutex m) → ⊥) → (timeout : Timeout)
      → Arrived (wait_for roster object p w timeout)
  waits object p ready asked w plain begun other Poll = same
  waits object p ready asked w plain begun other (Ticks n) =
      (serves_blocked roster p ready asked None w (Ticks n) plain begun other).arrives
  waits object p ready asked w plain begun other Infinite =
      (serves_blocked roster p ready asked None w Infinite plain begun other).arrives

  semaphore_arrives : (x : SemaphoreObject) (s : ℕ) (asked : SemaphoreService) → Arrived (semaphore_service roster x s caller asked)
  semaphore_arrives x s (semaphore.Wait timeout) =
      guard x (not x.created) InvalidParam _ refl (λ _.
      guard x (is_waiting_owner roster caller timeout) InvalidMode _ refl (λ _.
      asked_by x _ (λ p ready.
      cond_both {A = Outcome SemaphoreObject} (nat_lt 0 x.value) _ _ Arrived (λ _. same)
      (λ _. waits x p ready (call.Semaphore (KindService s (semaphore.Wait timeout))) (wait.Semaphore s) refl refl (λ m is. cc) timeout))))
  semaphore_arrives x s semaphore.Signal =
      guard x (not x.created) InvalidParam _ refl (λ _. signalled (first_waiter roster (queues.Semaphore s)) refl) where
        signalled : (first : Option ℕ) → first_waiter roster (queues.Semaphore s) ≡ first → Arrived (signal_to roster x first)
        signalled None is = guard x (not (nat_lt x.value x.maximum)) NoAction _ refl (λ _. same)
        signalled (Some p) is = few (reach_granted None roster p (queues.Semaphore s) refl scene.starts is)

  module _ (x : BufferObject) (b : ℕ) (p : ℕ) (ready : IsReady roster p) (timeout : Timeout) where
    sends_last : (message : Message) → Arrived (send_last roster x b p message timeout)
    sends_last message =
        cond_both {A = Outcome BufferObject} (nat_lt (length x.messages) x.capacity) _ _ Arrived (λ _. same)
        (λ _. waits x p ready (call.Buffer (KindService b (buffer.Send message timeout))) (wait.Send b message) refl refl (λ m is. cc) timeout)

    sends : (message : Message) (first : Option ℕ) → first_waiter roster (queues.Buffer b) ≡ first
        → Arrived (send_past roster x b p message timeout first)
    sends message None is = sends_last message
    sends message (Some q) is =
        cond_both {A = Outcome BufferObject} (is_receiver (record_at roster q).wait) _ _ Arrived
        (λ _. few (reach_granted (Some message) roster q (queues.Buffer b) refl scene.starts is))
        (λ _. sends_last message)

    module _ (message : Message) (left : BufferObject) where
      abbrev after : Roster
      after = receive roster p message

      got : Arrives most_given roster after
      got = arrives_by 0 (lit≤ tt) (reaches_receive roster p ready.known message)

      takes_in : (q : ℕ) (sent : Option Message) → first_waiter after (queues.Buffer b) ≡ Some q
          → Arrived (take_in after left message q sent)
      takes_in q None is = got
      takes_in q (Some sent) is =
          let first = reaches_receive roster p ready.known message in
          arrives_by 1 (lit≤ tt)
          (reaches_then 0 1 first (reach_granted None after q (queues.Buffer b) refl (first.moves.starts scene.starts) is))

      receives_from : (first : Option ℕ) → first_waiter after (queues.Buffer b) ≡ first → Arrived (received after left message first)
      receives_from None is = got
      receives_from (Some q) is = takes_in q (held_back (record_at after q).wait) is

    receives : (messages : List Message) → Arrived (receive_first roster x b p timeout messages)
    receives [] =
        waits x p ready (call.Buffer (KindService b (buffer.Receive timeout))) (wait.Receive b) refl refl (λ m is. cc) timeout
    receives (message ∷ later) =
        receives_from message (record x { messages = later }) (first_waiter (receive roster p message) (queues.Buffer b)) refl

  buffer_arrives : (x : BufferObject) (b : ℕ) (asked : BufferService) → Arrived (buffer_service roster x b caller asked)
  buffer_arrives x b (buffer.Send message timeout) =
      guard x (not x.created) InvalidParam _ refl (λ _.
      guard x (is_unfit x.longest message) InvalidParam _ refl (λ _.
      guard x (is_waiting_owner roster caller timeout) InvalidMode _ refl (λ _.
      asked_by x _ (λ p ready. sends x b p ready timeout message (first_waiter roster (queues.Buffer b)) refl))))
  buffer_arrives x b (buffer.Receive timeout) =
      guard x (not x.created) InvalidParam _ refl (λ _.
      guard x (is_waiting_owner roster caller timeout) InvalidMode _ refl (λ _.
      asked_by x _ (λ p ready. receives x b p ready timeout x.messages)))

  blackboard_arrives : (x : BlackboardObject) (b : ℕ) (asked : BlackboardService) → Arrived (blackboard_service roster x b caller asked)
  blackboard_arrives x b (blackboard.Display message) =
      guard x (not x.created) InvalidParam _ refl (λ _.
      guard x (is_unfit x.longest message) InvalidParam _ refl (λ _.
      arrives_by_each _ scene.few (reach_grant_all (queues.Blackboard b) (Some message) roster refl scene.starts)))
  blackboard_arrives x b blackboard.Clear = guard x (not x.created) InvalidParam _ refl (λ _. same)
  blackboard_arrives x b (blackboard.Read timeout) =
      guard x (not x.created) InvalidParam _ refl (λ _.
      guard x (is_waiting_owner roster caller timeout) InvalidMode _ refl (λ _.
      asked_by x _ (λ p ready. reads p ready x.message))) where
        reads : (p : ℕ) → IsReady roster p → (shown : Option Message) → Arrived (read_shown roster x b p timeout shown)
        reads p ready None =
            waits x p ready (call.Blackboard (KindService b (blackboard.Read timeout))) (wait.Blackboard b) refl refl (λ m is. cc) timeout
        reads p ready (Some message) = arrives_by 0 (lit≤ tt) (reaches_receive roster p ready.known message)

  event_flag_arrives : (x : EventFlagObject) (e : ℕ) (asked : EventFlagService) → Arrived (event_flag_service roster x e caller asked)
  event_flag_arrives x e event_flag.Set =
      guard x (not x.created) InvalidParam _ refl (λ _.
      arrives_by_each _ scene.few (reach_grant_all (queues.EventFlag e) None roster refl scene.starts))
  event_flag_arrives x e event_flag.Reset = guard x (not x.created) InvalidParam _ refl (λ _. same)
  event_flag_arrives x e (event_flag.Wait timeout) =
      guard x (not x.created) InvalidParam _ refl (λ _.
      guard x (is_waiting_owner roster caller timeout) InvalidMode _ refl (λ _.
      asked_by x _ (λ p ready.
      cond_both {A = Outcome EventFlagObject} x.up _ _ Arrived (λ _. same)
      (λ _. waits x p ready (call.EventFlag (KindService e (event_flag.Wait timeout))) (wait.EventFlag e) refl refl (λ m is. cc) timeout))))

  -- of a mutex and of a process only the creation is kept besides the records, so each is one that
  -- some history gives
  mutex_arrives : (x : MutexObject) (m : ℕ) (asked : MutexService) → Arrived (mutex_service roster x m caller asked)
  mutex_arrives x m asked = by_created x.created where
    by_created : (created : Bool) → Arrived (mutex_service roster (record { created = created }) m caller asked)
    by_created false = (mutexes.served_kind_service [] roster caller m no_mutex scene asked).serves.arrives
    by_created true =
        let history = accepted (call.Mutex (Create (Known m))) in
        let is : is_created created_mutex m history ≡ true = rw (eq-eqb m m refl) refl in
        subst (λ (b : Bool). Arrived (mutex_service roster (record { created = b }) m caller asked)) is
        (mutexes.served_kind_service history roster caller m no_mutex scene asked).serves.arrives

  process_arrives : (x : ProcessObject) (p : ℕ) → p < length roster.records → (asked : ProcessService)
      → Arrived (process_service roster x p caller asked)
  process_arrives x p known asked = by_created x.created where
    by_created : (created : Bool) → Arrived (process_service roster (record { created = created }) p caller asked)
    by_created false = (processes.served_kind_service [] roster caller p no_process scene known asked).serves.arrives
    by_created true =
        let history = accepted (call.Process (Create (Known p))) in
        let is : is_created created_process p history ≡ true = rw (eq-eqb p p refl) refl in
        subst (λ (b : Bool). Arrived (process_service roster (record { created = b }) p caller asked)) is
        (processes.served_kind_service history roster caller p no_process scene known asked).serves.arrives

  -- any service of a kind, and the number of its objects
  record ArrivesAmong {X : Type 0} (objects : List X) (outcome : Outcome (List X)) : Type 0 where
    arrives : Arrived outcome
    many : length outcome.object ≡ length objects

  module _ {C X W : Type 0} (kind : ObjectKind C X W) (many : ℕ)
      (own : (x : X) (i : ℕ) → i < many → (asked : W) → Arrived (kind.service roster x i caller asked)) where
    serves : (x : X) (i : ℕ) (asked : ObjectCall ℕ W) → IsKnownObject many asked → object_of asked ≡ Some i
        → Arrived (object_service kind roster x i caller asked)
    serves x i (Create named) known is =
        guard x (is_normal roster.mode) InvalidMode _ refl (λ _. guard x (kind.created x) NoAction _ refl (λ _. same))
    serves x i (GetId named) known is = guard x (not (kind.created x)) InvalidConfig _ refl (λ _. same)
    serves x i (GetStatus j) known is = guard x (not (kind.created x)) InvalidParam _ refl (λ _. same)
    serves x i (KindService j asked) known is =
        let here : j ≡ i = cc in own x i (rw here at known) asked

    none_serves : (objects : List X) (asked : ObjectCall ℕ W) → ArrivesAmong objects (no_entry roster objects asked)
    none_serves objects (Create named) =
        cond_both {A = Outcome (List X)} (is_normal roster.mode) _ _ (ArrivesAmong objects)
        (λ _. record { arrives = same; many = refl }) (λ _. record { arrives = same; many = refl })
    none_serves objects (GetId named) = record { arrives = same; many = refl }
    none_serves objects (GetStatus i) = record { arrives = same; many = refl }
    none_serves objects (KindService i asked) = record { arrives = same; many = refl }

    kind_arrives : (objects : List X) (asked : ObjectCall ℕ W) → IsKnownObject many asked
        → ArrivesAmong objects (object_deed kind roster objects caller asked)
    kind_arrives objects asked known = at (object_of asked) refl where
      at : (target : Option ℕ) → object_of asked ≡ target → ArrivesAmong objects (deed_at kind roster objects caller asked target)
      at None is = none_serves objects asked
      at (Some i) is = record { arrives = serves _ i asked known is; many = length-set objects i _ }

  -- any call: it arrives at its roster, and leaves an object for each entry of the table
  pub record ServesOf (table : Table) (outcome : Outcome Objects) : Type 0 where
    pub arrives : Arrives most_given roster outcome.roster
    pub objects : AreOf table outcome.object

  module _ (table : Table) (objects : Objects) (all : AreOf table objects) where
    -- as many objects as before
    are_of : (new : Objects) → length new.processes ≡ length objects.processes → length new.semaphores ≡ length objects.semaphores
        → length new.buffers ≡ length objects.buffers → length new.blackboards ≡ length objects.blackboards
        → length new.event_flags ≡ length objects.event_flags → length new.mutexes ≡ length objects.mutexes → AreOf table new
    are_of new processes semaphores buffers blackboards event_flags mutexes = record {
      processes = processes ∙ all.processes;
      semaphores = semaphores ∙ all.semaphores;
      buffers = buffers ∙ all.buffers;
      blackboards = blackboards ∙ all.blackboards;
      event_flags = event_flags ∙ all.event_flags;
      mutexes = mutexes ∙ all.mutexes;
    }

    abbrev Serves : Call → Type 0
    Serves asked = ServesOf table (service roster objects caller asked)

    pub call_arrives : length roster.records ≡ length table.processes → (asked : Call) → IsKnown table asked → Serves asked
    call_arrives records (call.Partition asked) known =
        let one = served_partition roster objects caller scene asked in
        record { arrives = one.serves.arrives; objects = rw one.stays all }
    call_arrives records (call.Caller asked) known =
        let one = served_caller roster objects caller scene asked in
        record { arrives = one.serves.arrives; objects = rw one.stays all }
    call_arrives records (call.Time asked) known =
        let one = served_time roster objects caller scene asked in
        record { arrives = one.serves.arrives; objects = rw one.stays all }
    call_arrives records (call.Work amount) known = record { arrives = same; objects = all }
    call_arrives records (call.Process asked) known =
        let one = kind_arrives process_kind (length table.processes) (λ x p here. process_arrives x p (rw records here)) objects.processes asked known in
        record { arrives = one.arrives; objects = are_of (with_processes objects _) one.many refl refl refl refl refl }
    call_arrives records (call.Semaphore asked) known =
        let one = kind_arrives semaphore_kind (length table.semaphores) (λ x i here. semaphore_arrives x i) objects.semaphores asked known in
        record { arrives = one.arrives; objects = are_of (with_semaphores objects _) refl one.many refl refl refl refl }
    call_arrives records (call.Buffer asked) known =
        let one = kind_arrives buffer_kind (length table.buffers) (λ x i here. buffer_arrives x i) objects.buffers asked known in
        record { arrives = one.arrives; objects = are_of (with_buffers objects _) refl refl one.many refl refl refl }
    call_arrives records (call.Blackboard asked) known =
        let one = kind_arrives blackboard_kind (length table.blackboards) (λ x i here. blackboard_arrives x i) objects.blackboards asked known in
        record { arrives = one.arrives; objects = are_of (with_blackboards objects _) refl refl refl one.many refl refl }
    call_arrives records (call.EventFlag asked) known =
        let one = kind_arrives event_flag_kind (length table.event_flags) (λ x i here. event_flag_arrives x i) objects.event_flags asked known in
        record { arrives = one.arrives; objects = are_of (with_event_flags objects _) refl refl refl refl one.many refl }
    call_arrives records (call.Mutex asked) known =
        let one = kind_arrives mutex_kind (length table.mutexes) (λ x i here. mutex_arrives x i) objects.mutexes asked known in
        record { arrives = one.arrives; objects = are_of (with_mutexes objects _) refl refl refl refl refl one.many }
