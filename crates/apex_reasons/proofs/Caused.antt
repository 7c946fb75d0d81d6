-- The cause that a rule names holds in the situation before the event.
use Rattle.std.proofs.Common.{◌≡◌, ℕ, Bool, true, false, is_none, is_some, ◌||◌, List, [], ◌∷◌, length, Option, None, Some, refl, subst, arith}
use Rattle.std.specs.Prelude.{IfSome, nat_lt}
use Rattle.std.proofs.lemmas.Bool.{ltb-false, true≢false}
use Rattle.apex_types.specs.declared.calls.BlackboardService.TheVariants.{Display, Read, Clear}
use Rattle.apex_types.specs.declared.calls.BufferService.TheVariants.{Send, Receive}
use Rattle.apex_types.specs.declared.calls.Call.TheVariants.{Partition, Process as ToProcess, Caller as ToCaller, Time, Semaphore, Buffer, Blackboard, EventFlag, Mutex, Work}
use Rattle.apex_types.specs.declared.calls.CallerCall.TheVariants.{StopSelf, SuspendSelf, GetMyId, GetMyProcessorCoreId}
use Rattle.apex_types.specs.declared.calls.EventFlagService.TheVariants as events
use Rattle.apex_types.specs.declared.calls.MutexService.TheVariants.{Acquire, Release}
use Rattle.apex_types.specs.declared.calls.ObjectCall.TheVariants.{Create, GetId, GetStatus, KindService}
use Rattle.apex_types.specs.declared.calls.SemaphoreService.TheVariants.{Wait, Signal}
use Rattle.apex_types.specs.declared.calls.TimeCall.TheVariants.{TimedWait, PeriodicWait, Replenish, GetTime}
use Rattle.apex_types.specs.declared.calls.Timeout.TheVariants.{Poll, Ticks, Infinite}
use Rattle.apex_machine.specs.Deeds.{Objects}
use Rattle.apex_machine.specs.declared.records.Queue.TheVariants as queues
use Rattle.apex_machine.specs.processes.Held.{holding_of}
use Rattle.apex_machine.specs.processes.Owners.{is_poll, owner, record_of}
use Rattle.apex_machine.specs.processes.Roster.{Roster}
use Rattle.apex_machine.specs.processes.Waiters.{first_waiter}
use Rattle.apex_machine.proofs.Held.{none_held}
use Rattle.apex_reasons.specs.Terms.{BlackboardService, BufferService, Call, Caller, CallerCall, EventFlagService, Message, MutexService, ObjectCall, SemaphoreService, TimeCall, Timeout}
use Rattle.apex_reasons.specs.Causes.{CauseHolds, NobodyReceives, cause_of, semaphore_is_at_zero, buffer_is_full, buffer_is_empty, blackboard_is_empty, event_flag_is_down, mutex_is_owned, asks_for_time, asks_for_release, asks_for_suspension}
use Rattle.apex_reasons.specs.Decisions.{rule_of}
use Rattle.apex_reasons.specs.Effects.{asked_wait, at_once, holds_message, is_for_receiver, effect_of_call, caller_effect, time_effect, mutex_call_effect}
use Rattle.apex_reasons.specs.Premises.{semaphore_in, buffer_in, blackboard_in, event_flag_in}
use Rattle.apex_reasons.specs.Reasons.{call_rule}
use Rattle.apex_reasons.specs.declared.guards.Guard.{Guard}
use Rattle.apex_reasons.specs.declared.rules.Rule.{Rule}
use Rattle.apex_reasons.specs.declared.rules.WaitCause.{WaitCause}
use Rattle.apex_reasons.specs.declared.rules.WaitCause.TheVariants.{SemaphoreIsAtZero, BufferIsFull, BufferIsEmpty, BlackboardIsEmpty, EventFlagIsDown, MutexIsOwned, AsksForTime, AsksForSuspension}

-- the fact holds of the cause that the rule names, if it names one
abbrev Names : (WaitCause → Type 0) → Rule → Type 0
Names fact rule = IfSome (cause_of rule) fact

-- a service that cannot be carried out at once
late : (fact : WaitCause → Type 0) (can : Bool) (cause : WaitCause) (timeout : Timeout) → (can ≡ false → fact cause) → Names fact (at_once can cause timeout)
late fact true cause timeout holds = tt
late fact false cause Poll holds = holds refl
late fact false cause (Ticks n) holds = holds refl
late fact false cause Infinite holds = holds refl

-- a service that asks for a wait
asking : (fact : WaitCause → Type 0) (cause : WaitCause) (timeout : Timeout) → (is_poll timeout ≡ false → fact cause) → Names fact (asked_wait cause timeout)
asking fact cause Poll holds = tt
asking fact cause (Ticks n) holds = holds refl
asking fact cause Infinite holds = holds refl

neither : (a b : Bool) → (a || b) ≡ false → (a ≡ false) × (b ≡ false)
neither true b e = absurd (true≢false e)
neither false b e = (refl, e)

none_of : {A : Type 0} (found : Option A) → is_some found ≡ false → found ≡ None
none_of None e = refl
none_of (Some x) e = absurd (true≢false e)

no_message : (messages : List Message) → holds_message messages ≡ false → messages ≡ []
no_message [] e = refl
no_message (message ∷ later) e = absurd (omega (arith, ltb-false 0 (length (message ∷ later)) e))

module _ (roster : Roster) (objects : Objects) (caller : Caller) where
  abbrev Fact : Option Call → WaitCause → Type 0
  Fact = CauseHolds roster objects caller

  semaphores : (call : ObjectCall ℕ SemaphoreService)
      → Names (Fact (Some (Semaphore call))) (effect_of_call roster objects caller (Semaphore call))
  semaphores (Create named) = tt
  semaphores (GetId named) = tt
  semaphores (GetStatus s) = tt
  semaphores (KindService s Signal) = tt
  semaphores (KindService s (Wait timeout)) =
      let value = (semaphore_in objects.semaphores s).value in
      late (Fact (Some (Semaphore (KindService s (Wait timeout))))) (nat_lt 0 value) SemaphoreIsAtZero timeout
      (λ none. semaphore_is_at_zero s timeout (omega (arith, ltb-false 0 value none)))

  nobody_receives : (b : ℕ) → is_for_receiver roster (first_waiter roster (queues.Buffer b)) ≡ false → NobodyReceives roster b
  nobody_receives b none q e = subst (λ (found : Option ℕ). is_for_receiver roster found ≡ false) e none

  buffers : (call : ObjectCall ℕ BufferService) → Names (Fact (Some (Buffer call))) (effect_of_call roster objects caller (Buffer call))
  buffers (Create named) = tt
  buffers (GetId named) = tt
  buffers (GetStatus b) = tt
  buffers (KindService b (Send message timeout)) =
      let buffer = buffer_in objects.buffers b in
      let receives = is_for_receiver roster (first_waiter roster (queues.Buffer b)) in
      let room = nat_lt (length buffer.messages) buffer.capacity in
      late (Fact (Some (Buffer (KindService b (Send message timeout))))) (receives || room) BufferIsFull timeout
      (λ no. buffer_is_full b message timeout (ltb-false (length buffer.messages) buffer.capacity (neither receives room no).1)
      (nobody_receives b (neither receives room no).0))
  buffers (KindService b (Receive timeout)) =
      let messages = (buffer_in objects.buffers b).messages in
      late (Fact (Some (Buffer (KindService b (Receive timeout))))) (holds_message messages) BufferIsEmpty timeout
      (λ none. buffer_is_empty b timeout (no_message messages none))

  blackboards : (call : ObjectCall ℕ BlackboardService)
      → Names (Fact (Some (Blackboard call))) (effect_of_call roster objects caller (Blackboard call))
  blackboards (Create named) = tt
  blackboards (GetId named) = tt
  blackboards (GetStatus b) = tt
  blackboards (KindService b (Display message)) = tt
  blackboards (KindService b Clear) = tt
  blackboards (KindService b (Read timeout)) =
      let shown = (blackboard_in objects.blackboards b).message in
      late (Fact (Some (Blackboard (KindService b (Read timeout))))) (is_some shown) BlackboardIsEmpty timeout
      (λ none. blackboard_is_empty b timeout (none_of shown none))

  event_flags : (call : ObjectCall ℕ EventFlagService)
      → Names (Fact (Some (EventFlag call))) (effect_of_call roster objects caller (EventFlag call))
  event_flags (Create named) = tt
  event_flags (GetId named) = tt
  event_flags (GetStatus e) = tt
  event_flags (KindService e events.Set) = tt
  event_flags (KindService e events.Reset) = tt
  event_flags (KindService e (events.Wait timeout)) =
      late (Fact (Some (EventFlag (KindService e (events.Wait timeout))))) (event_flag_in objects.event_flags e).up EventFlagIsDown timeout
      (λ down. event_flag_is_down e timeout down)

  owned_by : (m : ℕ) (timeout : Timeout) → holding_of m (record_of roster caller).owned ≡ None → (found : Option ℕ) → owner roster m ≡ found
      → is_none found ≡ false → Fact (Some (Mutex (KindService m (Acquire timeout)))) MutexIsOwned
  owned_by m timeout none None e some = absurd (true≢false some)
  owned_by m timeout none (Some q) e some = mutex_is_owned m q timeout e (none_held m (record_of roster caller).owned none)

  mutexes : (call : ObjectCall ℕ MutexService) → Names (Fact (Some (Mutex call))) (mutex_call_effect roster caller call)
  mutexes (Create named) = tt
  mutexes (GetId named) = tt
  mutexes (GetStatus m) = tt
  mutexes (KindService m Release) = tt
  mutexes (KindService m (Acquire timeout)) =
      let held = holding_of m (record_of roster caller).owned in
      let free = is_none (owner roster m) in
      late (Fact (Some (Mutex (KindService m (Acquire timeout))))) (is_some held || free) MutexIsOwned timeout
      (λ no. owned_by m timeout (none_of held (neither (is_some held) free no).0) (owner roster m) refl (neither (is_some held) free no).1)

  callers : (call : CallerCall) → Names (Fact (Some (ToCaller call))) (caller_effect call)
  callers StopSelf = tt
  callers GetMyId = tt
  callers GetMyProcessorCoreId = tt
  callers (SuspendSelf timeout) =
      asking (Fact (Some (ToCaller (SuspendSelf timeout)))) AsksForSuspension timeout (λ some. asks_for_suspension timeout some)

  times : (call : TimeCall) → Names (Fact (Some (Time call))) (time_effect call)
  times (TimedWait timeout) = asking (Fact (Some (Time (TimedWait timeout)))) AsksForTime timeout (λ some. asks_for_time timeout some)
  times PeriodicWait = asks_for_release
  times (Replenish budget) = tt
  times GetTime = tt

  by_effect : (call : Call) → Names (Fact (Some call)) (effect_of_call roster objects caller call)
  by_effect (Partition call) = tt
  by_effect (ToProcess call) = tt
  by_effect (ToCaller call) = callers call
  by_effect (Time call) = times call
  by_effect (Semaphore call) = semaphores call
  by_effect (Buffer call) = buffers call
  by_effect (Blackboard call) = blackboards call
  by_effect (EventFlag call) = event_flags call
  by_effect (Mutex call) = mutexes call
  by_effect (Work amount) = tt

  by_row : (fact : WaitCause → Type 0) (first : Option Guard) (effect : Rule) → Names fact effect → Names fact (rule_of first effect)
  by_row fact None effect named = named
  by_row fact (Some guard) effect named = tt

  -- the cause that the rule of a call names holds
  pub caused : (call : Call) → IfSome (cause_of (call_rule roster objects caller call)) (CauseHolds roster objects caller (Some call))
  caused call = by_row (Fact (Some call)) _ (effect_of_call roster objects caller call) (by_effect call)
