-- What the cause of a wait says of the situation before the event (this profile).
use Rattle.std.specs.Prelude.{◌≡◌, ℕ, ◌≤◌, false, [], length, Option, None, Some}
use Rattle.apex_types.specs.declared.calls.BlackboardService.TheVariants.{Read}
use Rattle.apex_types.specs.declared.calls.BufferService.TheVariants.{Send, Receive}
use Rattle.apex_types.specs.declared.calls.Call.TheVariants.{Caller as ToCaller, Time, Semaphore, Buffer, Blackboard, EventFlag, Mutex}
use Rattle.apex_types.specs.declared.calls.CallerCall.TheVariants.{SuspendSelf}
use Rattle.apex_types.specs.declared.calls.EventFlagService.TheVariants as events
use Rattle.apex_types.specs.declared.calls.MutexService.TheVariants.{Acquire}
use Rattle.apex_types.specs.declared.calls.ObjectCall.TheVariants.{KindService}
use Rattle.apex_types.specs.declared.calls.SemaphoreService.TheVariants.{Wait}
use Rattle.apex_types.specs.declared.calls.TimeCall.TheVariants.{TimedWait, PeriodicWait}
use Rattle.apex_machine.specs.Deeds.{Objects}
use Rattle.apex_machine.specs.declared.records.Queue.TheVariants as queues
use Rattle.apex_machine.specs.processes.Owners.{is_poll, owner, owns, record_of}
use Rattle.apex_machine.specs.processes.Roster.{Roster, record_at}
use Rattle.apex_machine.specs.processes.Waiters.{first_waiter}
use Rattle.apex_machine.specs.services.BufferServices.{is_receiver}
use Rattle.apex_reasons.specs.Terms.{Call, Caller, Message, Timeout}
use Rattle.apex_reasons.specs.Premises.{semaphore_in, buffer_in, blackboard_in, event_flag_in}
use Rattle.apex_reasons.specs.declared.rules.Rule.{Rule}
use Rattle.apex_reasons.specs.declared.rules.Rule.TheVariants.{Waits, WouldWait}
use Rattle.apex_reasons.specs.declared.rules.WaitCause.{WaitCause}
use Rattle.apex_reasons.specs.declared.rules.WaitCause.TheVariants.{SemaphoreIsAtZero, BufferIsFull, BufferIsEmpty, BlackboardIsEmpty, EventFlagIsDown, MutexIsOwned, AsksForTime, AsksForRelease, AsksForSuspension}

-- the cause that a rule names
abbrev pub cause_of : Rule → Option WaitCause
cause_of (Waits cause) = Some cause
cause_of (WouldWait cause) = Some cause
cause_of _ = None

-- the first waiter of the buffer, if there is one, waits for room and not for a message
abbrev pub NobodyReceives : Roster → ℕ → Type 0
NobodyReceives roster b = (q : ℕ) → first_waiter roster (queues.Buffer b) ≡ Some q
    → is_receiver (record_at roster q).wait ≡ false

-- the cause is a fact of the caller's call, of the processes and of the objects
pub data CauseHolds (roster : Roster) (objects : Objects) (caller : Caller) : Option Call
    → WaitCause → Type 0 where
  -- WAIT_SEMAPHORE: the value is 0
  semaphore_is_at_zero : (s : ℕ) (timeout : Timeout)
      → (semaphore_in objects.semaphores s).value ≡ 0
      → CauseHolds roster objects caller (Some (Semaphore (KindService s (Wait timeout))))
      SemaphoreIsAtZero
  -- SEND_BUFFER: the buffer holds as many messages as it takes, and nobody waits to receive one
  buffer_is_full : (b : ℕ) (message : Message) (timeout : Timeout)
      → (buffer_in objects.buffers b).capacity ≤ length (buffer_in objects.buffers b).messages
      → NobodyReceives roster b
      → CauseHolds roster objects caller (Some (Buffer (KindService b (Send message timeout))))
      BufferIsFull
  -- RECEIVE_BUFFER: the buffer holds no message
  buffer_is_empty : (b : ℕ) (timeout : Timeout) → (buffer_in objects.buffers b).messages ≡ []
      → CauseHolds roster objects caller (Some (Buffer (KindService b (Receive timeout))))
      BufferIsEmpty
  -- READ_BLACKBOARD: the blackboard holds no message
  blackboard_is_empty : (b : ℕ) (timeout : Timeout)
      → (blackboard_in objects.blackboards b).message ≡ None
      → CauseHolds roster objects caller (Some (Blackboard (KindService b (Read timeout))))
      BlackboardIsEmpty
  -- WAIT_EVENT: the event flag is down
  event_flag_is_down : (e : ℕ) (timeout : Timeout)
      → (event_flag_in objects.event_flags e).up ≡ false
      → CauseHolds roster objects caller (Some (EventFlag (KindService e (events.Wait timeout))))
      EventFlagIsDown
  -- ACQUIRE_MUTEX: process q owns the mutex, and the caller does not
  mutex_is_owned : (m q : ℕ) (timeout : Timeout) → owner roster m ≡ Some q
      → owns m (record_of roster caller) ≡ false
      → CauseHolds roster objects caller (Some (Mutex (KindService m (Acquire timeout))))
      MutexIsOwned
  -- TIMED_WAIT of some time
  asks_for_time : (timeout : Timeout) → is_poll timeout ≡ false
      → CauseHolds roster objects caller (Some (Time (TimedWait timeout))) AsksForTime
  -- PERIODIC_WAIT
  asks_for_release : CauseHolds roster objects caller (Some (Time PeriodicWait)) AsksForRelease
  -- SUSPEND_SELF for some time
  asks_for_suspension : (timeout : Timeout) → is_poll timeout ≡ false
      → CauseHolds roster objects caller (Some (ToCaller (SuspendSelf timeout))) AsksForSuspension
