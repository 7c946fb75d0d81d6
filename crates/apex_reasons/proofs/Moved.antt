-- The place of a process in its script makes no difference to a row and to an effect.
use Rattle.std.proofs.Common.{◌≡◌, ◌∙◌, ◌+◌, ℕ, ◌<◌, not, is_none, is_some, ◌&&◌, ◌||◌, List, [], ◌∷◌, length, Option, None, Some, get_or, ap, inl, inr, refl, subst, sym, arith}
use Rattle.std.proofs.lemmas.Bool.{cases_eq}
use Rattle.std.specs.Prelude.{nat_lt}
use Rattle.std.proofs.lemmas.List.Folds.{position_or_len-set}
use Rattle.apex_types.specs.Calls.{object_of}
use Rattle.apex_types.specs.declared.calls.BlackboardService.TheVariants.{Display, Read, Clear}
use Rattle.apex_types.specs.declared.calls.BufferService.TheVariants.{Send, Receive}
use Rattle.apex_types.specs.declared.calls.Call.TheVariants.{Partition, Process as ToProcess, Caller as ToCaller, Time, Semaphore, Buffer, Blackboard, EventFlag, Mutex, Work}
use Rattle.apex_types.specs.declared.calls.CallerCall.TheVariants.{StopSelf, SuspendSelf, GetMyId, GetMyProcessorCoreId}
use Rattle.apex_types.specs.declared.calls.EventFlagService.TheVariants as events
use Rattle.apex_types.specs.declared.calls.MutexService.TheVariants.{Acquire, Release}
use Rattle.apex_types.specs.declared.calls.ObjectCall.TheVariants.{Create, GetId, GetStatus, KindService}
use Rattle.apex_types.specs.declared.calls.PartitionCall.TheVariants.{SetPartitionMode, GetPartitionStatus}
use Rattle.apex_types.specs.declared.calls.ProcessService.TheVariants.{InitializeCoreAffinity, SetPriority, Start, DelayedStart, Stop, Suspend, Resume}
use Rattle.apex_types.specs.declared.calls.RequestedMode.TheVariants as requested
use Rattle.apex_types.specs.declared.calls.SemaphoreService.TheVariants.{Wait, Signal}
use Rattle.apex_types.specs.declared.calls.TimeCall.TheVariants.{TimedWait, PeriodicWait, Replenish, GetTime}
use Rattle.apex_types.specs.declared.calls.Timeout.TheVariants.{Poll}
use Rattle.apex_types.specs.declared.modes.Discipline.{Discipline}
use Rattle.apex_types.specs.declared.modes.Discipline.TheVariants.{Fifo, Priority}
use Rattle.apex_types.specs.declared.entries.Caller.TheVariants.{Process, Init, Nobody}
use Rattle.apex_machine.specs.Deeds.{Objects}
use Rattle.apex_machine.specs.declared.records.Queue.TheVariants as queues
use Rattle.apex_types.specs.Messages.{is_unfit}
use Rattle.apex_machine.specs.processes.Held.{holding_of}
use Rattle.apex_machine.specs.processes.Owners.{is_poll, owner, owns, owns_some, record_of}
use Rattle.apex_machine.specs.processes.Periods.{is_beyond, is_periodic}
use Rattle.apex_machine.specs.processes.Roster.{Roster, nobody, record_at}
use Rattle.apex_machine.specs.processes.Running.{is_before, is_older}
use Rattle.apex_machine.specs.processes.Stamps.{set_step}
use Rattle.apex_machine.specs.processes.Waiters.{discipline_of, first_waiter, waits_before, waits_in}
use Rattle.apex_machine.specs.services.BlackboardServices.{BlackboardObject, blackboard_kind}
use Rattle.apex_machine.specs.services.BufferServices.{BufferObject, buffer_kind, is_receiver}
use Rattle.apex_machine.specs.services.EventFlagServices.{EventFlagObject, event_flag_kind}
use Rattle.apex_machine.specs.services.MutexServices.{MutexObject, mutex_kind}
use Rattle.apex_machine.specs.services.Objects.{ObjectKind}
use Rattle.apex_machine.specs.services.ProcessServices.{ProcessObject, process_kind, is_infinite}
use Rattle.apex_machine.specs.services.SemaphoreServices.{SemaphoreObject, semaphore_kind}
use Rattle.apex_machine.proofs.Choice.{place_first, place_found, place_none}
use Rattle.apex_machine.proofs.Orders.{waits_strict}
use Rattle.apex_machine.proofs.Replaces.{Replaces, replaces_record}
use Rattle.apex_machine.proofs.Rosters.{at_record}
use Rattle.apex_reasons.specs.Terms.{BlackboardService, BufferService, Call, Caller, CallerCall, EventFlagService, MutexService, ObjectCall, PartitionCall, ProcessService, Queue, Record, SemaphoreService, TimeCall, Timeout}
use Rattle.apex_reasons.specs.Callers.{is_no_process}
use Rattle.apex_reasons.specs.Effects.{OwnEffect, at_once, mutex_call_effect, is_for_receiver, kind_effect, effect_of_call, buffer_effect, mutex_effect}
use Rattle.apex_reasons.specs.Guards.{◌when◌}
use Rattle.apex_reasons.specs.declared.guards.Guard.TheVariants as guard
use Rattle.apex_reasons.specs.declared.rules.WaitCause.TheVariants.{BufferIsFull, MutexIsOwned}
use Rattle.apex_reasons.specs.ObjectRows.{OwnRow, row_at, process_row, priority_row, start_row, of_another, stop_row, suspend_row, resume_row, waiting_row, semaphore_row, buffer_row, blackboard_row, event_flag_row, owner_row, mutex_row}
use Rattle.apex_reasons.specs.Rows.{partition_row, caller_row, time_row, row_of_call}

-- the second record is the first one at another step
pub record IsMoved (r s : Record) : Type 0 where
  pub step : ℕ
  pub is : s ≡ record r { step = step }

module _ (roster : Roster) (p step : ℕ) (known : p < length roster.records) where
  abbrev moved : Roster
  moved = set_step roster p step

  abbrev stepped : Record
  stepped = record (record_at roster p) { step = step }

  replaces : Replaces 0 roster moved p stepped
  replaces = replaces_record roster p known stepped refl 0

  each : (q : ℕ) → IsMoved (record_at roster q) (record_at moved q)
  each q = elim (cases_eq q p) [
    | inl same ↦
        subst (λ (k : ℕ). IsMoved (record_at roster k) (record_at moved k)) (sym same)
        (record { step = step; is = at_record roster p known stepped })
    | inr apart ↦ record { step = (record_at roster q).step; is = replaces.others q apart }
  ]

  many : length moved.records ≡ length roster.records
  many = replaces.many

  -- a property of records that does not see the step
  unmoved : {A : Type 0} (f : Record → A) → ((r : Record) (k : ℕ) → f (record r { step = k }) ≡ f r)
      → (q : ℕ) → f (record_at moved q) ≡ f (record_at roster q)
  unmoved f blind q = ap f (each q).is ∙ blind (record_at roster q) (each q).step

  by_record : {A : Type 0} (f : Record → A) → ((r : Record) (k : ℕ) → f (record r { step = k }) ≡ f r)
      → (caller : Caller) → f (record_of moved caller) ≡ f (record_of roster caller)
  by_record f blind (Process q) = unmoved f blind q
  by_record f blind Init = refl
  by_record f blind Nobody = refl

  waits_still : (queue : Queue) (q : ℕ) → waits_in queue (record_at moved q) ≡ waits_in queue (record_at roster q)
  unfolding waits_in
  waits_still queue = unmoved (waits_in queue) (λ r k. refl)

  older : (a b : ℕ) → is_older (record_at moved a) (record_at moved b) ≡ is_older (record_at roster a) (record_at roster b)
  older a b =
      unmoved (λ r. is_older r (record_at moved b)) (λ r k. refl) a
      ∙ unmoved (λ r. is_older (record_at roster a) r) (λ r k. refl) b

  earlier : (a b : ℕ) → is_before (record_at moved a) (record_at moved b) ≡ is_before (record_at roster a) (record_at roster b)
  earlier a b =
      unmoved (λ r. is_before r (record_at moved b)) (λ r k. refl) a
      ∙ unmoved (λ r. is_before (record_at roster a) r) (λ r k. refl) b

  before_still : (discipline : Discipline) (a b : ℕ)
      → waits_before discipline (record_at moved a) (record_at moved b) ≡ waits_before discipline (record_at roster a) (record_at roster b)
  before_still Fifo a b = older a b
  before_still Priority a b = earlier a b

  waiter_is : (queue : Queue) (found : Option ℕ) → first_waiter roster queue ≡ found → first_waiter moved queue ≡ found
  waiter_is queue None e =
      let before = waits_before (discipline_of roster queue) in
      let others = place_none (waits_in queue) before roster.records (waits_strict (discipline_of roster queue)) e in
      place_found (waits_in queue) before moved.records None
      (record { none = λ q below. waits_still queue q ∙ others.none q (omega (arith, below, many)) })
  waiter_is queue (Some q) e =
      let discipline = discipline_of roster queue in
      let is = place_first (waits_in queue) (waits_before discipline) roster.records (waits_strict discipline) q e in
      place_found (waits_in queue) (waits_before discipline) moved.records (Some q)
      (record {
        within = omega (arith, is.within, many);
        passing = waits_still queue q ∙ is.passing;
        least = λ k below waits.
            before_still discipline k q ∙ is.least k (omega (arith, below, many)) (sym (waits_still queue k) ∙ waits);
        first = λ k below waits. before_still discipline q k ∙ is.first k below (sym (waits_still queue k) ∙ waits);
      })

  waiter : (queue : Queue) → first_waiter moved queue ≡ first_waiter roster queue
  waiter queue = waiter_is queue (first_waiter roster queue) refl

  receivers : (found : Option ℕ) → is_for_receiver moved found ≡ is_for_receiver roster found
  receivers None = refl
  receivers (Some q) = unmoved (λ r. is_receiver r.wait) (λ r k. refl) q

  owner_still : (m : ℕ) → owner moved m ≡ owner roster m
  owner_still m =
      let same = position_or_len-set (owns m) roster.records p stepped nobody refl in
      rw (same, many) refl

  may_wait : (caller : Caller) (timeout : Timeout) → waiting_row moved caller timeout ≡ waiting_row roster caller timeout
  may_wait caller timeout =
      by_record (λ r. guard.OwnerWithTimeout when (owns_some r && not (is_poll timeout)) ∷ guard.NoCaller when is_no_process caller ∷ [])
      (λ r k. refl) caller

  processes : (x : ProcessObject) (i : ℕ) (caller : Caller) (service : ProcessService)
      → process_row moved x i caller service ≡ process_row roster x i caller service
  processes x i caller (InitializeCoreAffinity core) = refl
  processes x i caller (SetPriority priority) = unmoved (λ r. priority_row r x priority) (λ r k. refl) i
  processes x i caller Start = unmoved (λ r. start_row r x Poll) (λ r k. refl) i
  processes x i caller (DelayedStart delay) = unmoved (λ r. start_row r x delay) (λ r k. refl) i
  processes x i caller Stop = unmoved (λ r. of_another caller x i (stop_row r)) (λ r k. refl) i
  processes x i caller Suspend = unmoved (λ r. of_another caller x i (suspend_row r)) (λ r k. refl) i
  processes x i caller Resume = unmoved (λ r. of_another caller x i (resume_row r)) (λ r k. refl) i

  semaphores : (x : SemaphoreObject) (s : ℕ) (caller : Caller) (service : SemaphoreService)
      → semaphore_row moved x s caller service ≡ semaphore_row roster x s caller service
  semaphores x s caller (Wait timeout) = ap (λ later. guard.NotCreated when not x.created ∷ later) (may_wait caller timeout)
  semaphores x s caller Signal =
      ap (λ (found : Option ℕ). guard.NotCreated when not x.created
      ∷ guard.SemaphoreIsFull when (is_none found && not (nat_lt x.value x.maximum)) ∷ [])
      (waiter (queues.Semaphore s))

  buffers : (x : BufferObject) (b : ℕ) (caller : Caller) (service : BufferService)
      → buffer_row moved x caller service ≡ buffer_row roster x caller service
  buffers x b caller (Send message timeout) =
      ap (λ later. guard.NotCreated when not x.created ∷ guard.UnfitMessage when is_unfit x.longest message ∷ later) (may_wait caller timeout)
  buffers x b caller (Receive timeout) = ap (λ later. guard.NotCreated when not x.created ∷ later) (may_wait caller timeout)

  blackboards : (x : BlackboardObject) (b : ℕ) (caller : Caller) (service : BlackboardService)
      → blackboard_row moved x caller service ≡ blackboard_row roster x caller service
  blackboards x b caller (Display message) = refl
  blackboards x b caller (Read timeout) = ap (λ later. guard.NotCreated when not x.created ∷ later) (may_wait caller timeout)
  blackboards x b caller Clear = refl

  event_flags : (x : EventFlagObject) (e : ℕ) (caller : Caller) (service : EventFlagService)
      → event_flag_row moved x caller service ≡ event_flag_row roster x caller service
  event_flags x e caller (events.Wait timeout) = ap (λ later. guard.NotCreated when not x.created ∷ later) (may_wait caller timeout)
  event_flags x e caller events.Set = refl
  event_flags x e caller events.Reset = refl

  mutexes : (x : MutexObject) (m : ℕ) (caller : Caller) (service : MutexService)
      → mutex_row moved x m caller service ≡ mutex_row roster x m caller service
  mutexes x m caller (Acquire timeout) =
      by_record (λ r. guard.NotCreated when not x.created ∷ owner_row roster m r timeout (guard.NoCaller when is_no_process caller ∷ []))
      (λ r k. refl) caller
  mutexes x m caller Release =
      by_record (λ r. guard.NotCreated when not x.created ∷ guard.CallerIsNotOwner when not (owns m r) ∷ []) (λ r k. refl) caller

  times : (caller : Caller) (call : TimeCall) → time_row moved caller call ≡ time_row roster caller call
  times caller (TimedWait timeout) =
      by_record (λ r. guard.CallerOwnsMutex when owns_some r ∷ guard.NoCaller when is_no_process caller ∷ guard.InfiniteTimedWait when is_infinite timeout ∷ [])
      (λ r k. refl) caller
  times caller PeriodicWait =
      by_record (λ r. guard.NoCaller when is_no_process caller ∷ guard.CallerIsAperiodic when not (is_periodic r) ∷ guard.CallerOwnsMutex when owns_some r ∷ [])
      (λ r k. refl) caller
  times caller (Replenish budget) =
      by_record (λ r. guard.NoCaller when is_no_process caller ∷ guard.InfiniteCapacity when is_none r.attributes.capacity
      ∷ guard.DeadlinePastPeriod when is_beyond r.release r.attributes.period (roster.now + budget) ∷ [])
      (λ r k. refl) caller
  times caller GetTime = refl

  callers : (caller : Caller) (call : CallerCall) → caller_row moved caller call ≡ caller_row roster caller call
  callers caller (SuspendSelf timeout) =
      by_record (λ r. guard.NoCaller when is_no_process caller ∷ guard.CallerIsPeriodic when is_periodic r ∷ guard.CallerOwnsMutex when owns_some r ∷ [])
      (λ r k. refl) caller
  callers caller StopSelf = refl
  callers caller GetMyId = refl
  callers caller GetMyProcessorCoreId = refl

  on_object : {C X W : Type 0} (kind : ObjectKind C X W) (own : OwnRow X W)
      → ((x : X) (i : ℕ) (caller : Caller) (service : W) → own moved x i caller service ≡ own roster x i caller service)
      → (objects : List X) (caller : Caller) (call : ObjectCall ℕ W) (place : Option ℕ)
      → row_at kind own moved objects caller call place ≡ row_at kind own roster objects caller call place
  on_object kind own same objects caller (KindService j service) (Some i) = same (get_or objects i kind.absent) i caller service
  on_object kind own same objects caller (Create named) (Some i) = refl
  on_object kind own same objects caller (GetId named) (Some i) = refl
  on_object kind own same objects caller (GetStatus j) (Some i) = refl
  on_object kind own same objects caller (Create named) None = refl
  on_object kind own same objects caller (GetId named) None = refl
  on_object kind own same objects caller (GetStatus j) None = refl
  on_object kind own same objects caller (KindService j service) None = refl

  partitions : (call : PartitionCall) → partition_row moved call ≡ partition_row roster call
  partitions (SetPartitionMode requested.Idle) = refl
  partitions (SetPartitionMode requested.Normal) = refl
  partitions GetPartitionStatus = refl

  -- the row of a call stays as the process moves on in its script
  pub same_row : (objects : Objects) (caller : Caller) (call : Call)
      → row_of_call moved objects caller call ≡ row_of_call roster objects caller call
  same_row objects caller (Partition call) = partitions call
  same_row objects caller (ToProcess call) =
      on_object process_kind process_row processes objects.processes caller call (object_of call)
  same_row objects caller (ToCaller call) = callers caller call
  same_row objects caller (Time call) = times caller call
  same_row objects caller (Semaphore call) =
      on_object semaphore_kind semaphore_row semaphores objects.semaphores caller call (object_of call)
  same_row objects caller (Buffer call) =
      on_object buffer_kind (λ left x b. buffer_row left x) buffers objects.buffers caller call (object_of call)
  same_row objects caller (Blackboard call) =
      on_object blackboard_kind (λ left x b. blackboard_row left x) blackboards objects.blackboards caller call (object_of call)
  same_row objects caller (EventFlag call) =
      on_object event_flag_kind (λ left x e. event_flag_row left x) event_flags objects.event_flags caller call (object_of call)
  same_row objects caller (Mutex call) =
      on_object mutex_kind mutex_row mutexes objects.mutexes caller call (object_of call)
  same_row objects caller (Work amount) = refl

  buffers_effect : (x : BufferObject) (b : ℕ) (service : BufferService) → buffer_effect moved x b service ≡ buffer_effect roster x b service
  buffers_effect x b (Send message timeout) =
      ap (λ receives. at_once (receives || nat_lt (length x.messages) x.capacity) BufferIsFull timeout)
      (ap (is_for_receiver moved) (waiter (queues.Buffer b)) ∙ receivers (first_waiter roster (queues.Buffer b)))
  buffers_effect x b (Receive timeout) = refl

  mutexes_effect : (caller : Caller) (m : ℕ) (service : MutexService) → mutex_effect moved caller m service ≡ mutex_effect roster caller m service
  mutexes_effect caller m (Acquire timeout) =
      ap (λ (found : Option ℕ). at_once (is_some (holding_of m (record_of moved caller).owned) || is_none found) MutexIsOwned timeout)
      (owner_still m)
      ∙ by_record (λ r. at_once (is_some (holding_of m r.owned) || is_none (owner roster m)) MutexIsOwned timeout)
      (λ r k. refl) caller
  mutexes_effect caller m Release = refl

  on_mutex : (caller : Caller) (call : ObjectCall ℕ MutexService) → mutex_call_effect moved caller call ≡ mutex_call_effect roster caller call
  on_mutex caller (KindService m service) = mutexes_effect caller m service
  on_mutex caller (Create named) = refl
  on_mutex caller (GetId named) = refl
  on_mutex caller (GetStatus m) = refl

  on_kind : {C X W : Type 0} (kind : ObjectKind C X W) (after before : OwnEffect X W)
      → ((x : X) (i : ℕ) (service : W) → after x i service ≡ before x i service)
      → (objects : List X) (call : ObjectCall ℕ W) → kind_effect kind after objects call ≡ kind_effect kind before objects call
  on_kind kind after before same objects (KindService i service) = same (get_or objects i kind.absent) i service
  on_kind kind after before same objects (Create named) = refl
  on_kind kind after before same objects (GetId named) = refl
  on_kind kind after before same objects (GetStatus i) = refl

  -- the effect of a call stays as the process moves on in its script
  pub same_effect : (objects : Objects) (caller : Caller) (call : Call)
      → effect_of_call moved objects caller call ≡ effect_of_call roster objects caller call
  same_effect objects caller (Partition call) = refl
  same_effect objects caller (ToProcess call) = refl
  same_effect objects caller (ToCaller call) = refl
  same_effect objects caller (Time call) = refl
  same_effect objects caller (Semaphore call) = refl
  same_effect objects caller (Buffer call) =
      on_kind buffer_kind (buffer_effect moved) (buffer_effect roster) buffers_effect objects.buffers call
  same_effect objects caller (Blackboard call) = refl
  same_effect objects caller (EventFlag call) = refl
  same_effect objects caller (Mutex call) = on_mutex caller call
  same_effect objects caller (Work amount) = refl
