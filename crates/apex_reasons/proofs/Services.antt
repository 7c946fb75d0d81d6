-- The row of each service, or else its effect, decides its reply.
use Rattle.std.proofs.Common.{◌+◌, ℕ, not, cond, is_none, None, Some, refl}
use Rattle.apex_types.specs.Modes.{is_normal}
use Rattle.apex_types.specs.declared.calls.Call.TheVariants.{Partition, Process as ToProcess, Caller as ToCaller, Time, Semaphore, Buffer, Blackboard, EventFlag, Mutex, Work}
use Rattle.apex_types.specs.declared.calls.CallerCall.TheVariants.{StopSelf, SuspendSelf, GetMyId, GetMyProcessorCoreId}
use Rattle.apex_types.specs.declared.calls.ObjectCall.TheVariants.{Create, GetId, GetStatus, KindService}
use Rattle.apex_types.specs.declared.calls.PartitionCall.TheVariants.{SetPartitionMode, GetPartitionStatus}
use Rattle.apex_types.specs.declared.calls.RequestedMode.TheVariants as requested
use Rattle.apex_types.specs.declared.calls.TimeCall.TheVariants.{TimedWait, PeriodicWait, Replenish, GetTime}
use Rattle.apex_types.specs.declared.calls.Timeout.TheVariants.{Poll, Ticks, Infinite}
use Rattle.apex_types.specs.declared.entries.Caller.TheVariants.{Process, Init, Nobody}
use Rattle.apex_machine.specs.Deeds.{Objects, service}
use Rattle.apex_machine.specs.processes.Owners.{is_owner, owns_some}
use Rattle.apex_machine.specs.processes.Periods.{is_beyond, is_periodic}
use Rattle.apex_machine.specs.processes.Roster.{Roster, record_at}
use Rattle.apex_machine.specs.services.BlackboardServices.{blackboard_kind}
use Rattle.apex_machine.specs.services.BufferServices.{buffer_kind}
use Rattle.apex_machine.specs.services.CallerServices.{caller_service, self_suspension}
use Rattle.apex_machine.specs.services.EventFlagServices.{event_flag_kind}
use Rattle.apex_machine.specs.services.MutexServices.{mutex_kind}
use Rattle.apex_machine.specs.services.Objects.{object_deed}
use Rattle.apex_machine.specs.services.PartitionServices.{partition_service}
use Rattle.apex_machine.specs.services.ProcessServices.{process_kind, is_infinite}
use Rattle.apex_machine.specs.services.SemaphoreServices.{semaphore_kind}
use Rattle.apex_machine.specs.services.TimeServices.{time_service, timed_wait}
use Rattle.apex_reasons.specs.Terms.{Call, Caller, CallerCall, MutexService, ObjectCall, PartitionCall, ProcessService, TimeCall, Timeout}
use Rattle.apex_reasons.specs.Decisions.{Explains}
use Rattle.apex_reasons.specs.Effects.{asked_wait, kind_effect, mutex_call_effect, caller_effect, time_effect, effect_of_call, semaphore_effect, buffer_effect, blackboard_effect, event_flag_effect, mutex_effect}
use Rattle.apex_reasons.specs.Guards.{first_holding}
use Rattle.apex_reasons.specs.ObjectRows.{kind_row, process_row, semaphore_row, buffer_row, blackboard_row, event_flag_row, mutex_row}
use Rattle.apex_reasons.specs.Rows.{partition_row, caller_row, time_row, row_of_call}
use Rattle.apex_reasons.specs.declared.guards.Guard.TheVariants as guard
use Rattle.apex_reasons.specs.declared.rules.Rule.TheVariants.{Served}
use Rattle.apex_reasons.specs.declared.rules.WaitCause.TheVariants.{AsksForSuspension, AsksForTime}
use Rattle.apex_reasons.proofs.Decided.{Decided, all_served, by_guard, on_call, processes_decided, semaphores_decided, buffers_decided, blackboards_decided, event_flags_decided, mutexes_decided}

module _ (roster : Roster) (objects : Objects) where
  partitions : (call : PartitionCall)
      → Decided (first_holding (partition_row roster call)) Served (partition_service roster objects call)
  partitions (SetPartitionMode requested.Idle) = refl
  partitions (SetPartitionMode requested.Normal) =
      by_guard roster objects guard.ModeIsNormalAlready (is_normal roster.mode) _ Served _ (λ _. refl)
  partitions GetPartitionStatus = refl

  of_processes : (caller : Caller) (call : ObjectCall ℕ ProcessService)
      → Decided (first_holding (kind_row process_kind process_row roster objects.processes caller call))
      (kind_effect process_kind all_served objects.processes call)
      (object_deed process_kind roster objects.processes caller call)
  of_processes caller call =
      on_call process_kind process_row (λ left by. all_served) processes_decided roster caller objects.processes call

  processes : (caller : Caller) (call : ObjectCall ℕ ProcessService)
      → Decided (first_holding (kind_row process_kind process_row roster objects.processes caller call)) Served
      (object_deed process_kind roster objects.processes caller call)
  processes caller (Create named) = of_processes caller (Create named)
  processes caller (GetId named) = of_processes caller (GetId named)
  processes caller (GetStatus p) = of_processes caller (GetStatus p)
  processes caller (KindService p service) = of_processes caller (KindService p service)

  of_mutexes : (caller : Caller) (call : ObjectCall ℕ MutexService)
      → Decided (first_holding (kind_row mutex_kind mutex_row roster objects.mutexes caller call))
      (kind_effect mutex_kind (λ x. mutex_effect roster caller) objects.mutexes call)
      (object_deed mutex_kind roster objects.mutexes caller call)
  of_mutexes caller call =
      on_call mutex_kind mutex_row (λ left by x. mutex_effect left by) mutexes_decided roster caller objects.mutexes call

  mutexes : (caller : Caller) (call : ObjectCall ℕ MutexService)
      → Decided (first_holding (kind_row mutex_kind mutex_row roster objects.mutexes caller call))
      (mutex_call_effect roster caller call) (object_deed mutex_kind roster objects.mutexes caller call)
  mutexes caller (Create named) = of_mutexes caller (Create named)
  mutexes caller (GetId named) = of_mutexes caller (GetId named)
  mutexes caller (GetStatus m) = of_mutexes caller (GetStatus m)
  mutexes caller (KindService m service) = of_mutexes caller (KindService m service)

  suspends : (p : ℕ) (timeout : Timeout)
      → Explains (asked_wait AsksForSuspension timeout) (self_suspension roster objects p timeout).reply
  suspends p Poll = refl
  suspends p (Ticks n) = refl
  suspends p Infinite = refl

  callers : (caller : Caller) (call : CallerCall)
      → Decided (first_holding (caller_row roster caller call)) (caller_effect call) (caller_service roster objects caller call)
  callers (Process p) StopSelf = refl
  callers (Process p) (SuspendSelf timeout) =
      by_guard roster objects guard.CallerIsPeriodic (is_periodic (record_at roster p)) _ _ _
      (λ _. by_guard roster objects guard.CallerOwnsMutex (owns_some (record_at roster p)) _ _ _
      (λ _. suspends p timeout))
  callers (Process p) GetMyId = refl
  callers (Process p) GetMyProcessorCoreId = refl
  callers Init StopSelf = refl
  callers Init (SuspendSelf timeout) = refl
  callers Init GetMyId = refl
  callers Init GetMyProcessorCoreId = refl
  callers Nobody StopSelf = refl
  callers Nobody (SuspendSelf timeout) = refl
  callers Nobody GetMyId = refl
  callers Nobody GetMyProcessorCoreId = refl

  waits : (p : ℕ) (timeout : Timeout)
      → Decided (cond (is_infinite timeout) (Some guard.InfiniteTimedWait) None) (asked_wait AsksForTime timeout)
      (timed_wait roster objects timeout p)
  waits p Poll = refl
  waits p (Ticks n) = refl
  waits p Infinite = refl

  times : (caller : Caller) (call : TimeCall)
      → Decided (first_holding (time_row roster caller call)) (time_effect call) (time_service roster objects caller call)
  times (Process p) (TimedWait timeout) =
      by_guard roster objects guard.CallerOwnsMutex (is_owner roster (Process p)) _ _ _ (λ _. waits p timeout)
  times Init (TimedWait timeout) = refl
  times Nobody (TimedWait timeout) = refl
  times (Process p) PeriodicWait =
      by_guard roster objects guard.CallerIsAperiodic (not (is_periodic (record_at roster p))) _ _ _
      (λ _. by_guard roster objects guard.CallerOwnsMutex (owns_some (record_at roster p)) _ _ _ (λ _. refl))
  times Init PeriodicWait = refl
  times Nobody PeriodicWait = refl
  times (Process p) (Replenish budget) =
      let r = record_at roster p in
      by_guard roster objects guard.InfiniteCapacity (is_none r.attributes.capacity) _ _ _
      (λ _. by_guard roster objects guard.DeadlinePastPeriod (is_beyond r.release r.attributes.period (roster.now + budget)) _ _ _
      (λ _. refl))
  times Init (Replenish budget) = refl
  times Nobody (Replenish budget) = refl
  times (Process p) GetTime = refl
  times Init GetTime = refl
  times Nobody GetTime = refl

  -- the first guard of the row of a call that holds, or else its effect, decides the reply of its
  -- service
  pub decided : (caller : Caller) (call : Call)
      → Decided (first_holding (row_of_call roster objects caller call)) (effect_of_call roster objects caller call)
      (service roster objects caller call)
  decided caller (Partition call) = partitions call
  decided caller (ToProcess call) = processes caller call
  decided caller (ToCaller call) = callers caller call
  decided caller (Time call) = times caller call
  decided caller (Semaphore call) =
      on_call semaphore_kind semaphore_row (λ left by x s. semaphore_effect x) semaphores_decided roster caller objects.semaphores call
  decided caller (Buffer call) =
      on_call buffer_kind (λ left x b. buffer_row left x) (λ left by. buffer_effect left) buffers_decided roster caller objects.buffers call
  decided caller (Blackboard call) =
      on_call blackboard_kind (λ left x b. blackboard_row left x) (λ left by x b. blackboard_effect x) blackboards_decided roster caller objects.blackboards call
  decided caller (EventFlag call) =
      on_call event_flag_kind (λ left x e. event_flag_row left x) (λ left by x e. event_flag_effect x) event_flags_decided roster caller objects.event_flags call
  decided caller (Mutex call) = mutexes caller call
  decided caller (Work amount) = refl
