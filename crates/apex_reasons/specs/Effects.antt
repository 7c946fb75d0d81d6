-- What a service does if no guard of its row holds: it is carried out at once, or its caller begins
-- to wait (this profile).
use Rattle.std.specs.Prelude.{ℕ, Bool, false, List, length, Option, None, Some, is_none, is_some, nat_lt, ◌||◌, if◌then◌else◌, slice_index_or}
use Rattle.apex_types.specs.declared.calls.BlackboardService.TheVariants.{Read}
use Rattle.apex_types.specs.declared.calls.BufferService.TheVariants.{Send, Receive}
use Rattle.apex_types.specs.declared.calls.Call.TheVariants.{Partition, Process, Caller as ToCaller, Time, Semaphore, Buffer, Blackboard, EventFlag, Mutex, Work}
use Rattle.apex_types.specs.declared.calls.CallerCall.TheVariants.{SuspendSelf}
use Rattle.apex_types.specs.declared.calls.EventFlagService.TheVariants as events
use Rattle.apex_types.specs.declared.calls.MutexService.TheVariants.{Acquire}
use Rattle.apex_types.specs.declared.calls.ObjectCall.TheVariants.{KindService}
use Rattle.apex_types.specs.declared.calls.SemaphoreService.TheVariants.{Wait}
use Rattle.apex_types.specs.declared.calls.TimeCall.TheVariants.{TimedWait, PeriodicWait}
use Rattle.apex_machine.specs.Deeds.{Objects}
use Rattle.apex_machine.specs.declared.records.Queue.TheVariants as queues
use Rattle.apex_machine.specs.processes.Held.{holding_of}
use Rattle.apex_machine.specs.processes.Owners.{is_poll, owner, record_of}
use Rattle.apex_machine.specs.processes.Roster.{Roster, record_at}
use Rattle.apex_machine.specs.processes.Waiters.{first_waiter}
use Rattle.apex_machine.specs.services.BlackboardServices.{BlackboardObject, blackboard_kind}
use Rattle.apex_machine.specs.services.BufferServices.{BufferObject, buffer_kind, is_receiver}
use Rattle.apex_machine.specs.services.EventFlagServices.{EventFlagObject, event_flag_kind}
use Rattle.apex_machine.specs.services.Objects.{ObjectKind}
use Rattle.apex_machine.specs.services.SemaphoreServices.{SemaphoreObject, semaphore_kind}
use Rattle.apex_reasons.specs.Terms.{BlackboardService, BufferService, Call, Caller, CallerCall, EventFlagService, Message, MutexService, ObjectCall, SemaphoreService, TimeCall, Timeout}
use Rattle.apex_reasons.specs.declared.rules.Rule.{Rule}
use Rattle.apex_reasons.specs.declared.rules.Rule.TheVariants.{Served, Waits, WouldWait}
use Rattle.apex_reasons.specs.declared.rules.WaitCause.{WaitCause}
use Rattle.apex_reasons.specs.declared.rules.WaitCause.TheVariants.{SemaphoreIsAtZero, BufferIsFull, BufferIsEmpty, BlackboardIsEmpty, EventFlagIsDown, MutexIsOwned, AsksForTime, AsksForRelease, AsksForSuspension}

-- the caller has to wait; with a timeout of 0 it does not
abbrev pub waiting_rule : WaitCause → Timeout → Rule
waiting_rule cause timeout = if is_poll timeout then WouldWait cause else Waits cause

-- the service is carried out at once if it can be
abbrev pub at_once : Bool → WaitCause → Timeout → Rule
at_once can cause timeout = if can then Served else waiting_rule cause timeout

-- the caller asks for a wait; with a timeout of 0 there is none
abbrev pub asked_wait : WaitCause → Timeout → Rule
asked_wait cause timeout = if is_poll timeout then Served else Waits cause

-- semaphores: a wait takes one of the value
abbrev pub semaphore_effect : SemaphoreObject → SemaphoreService → Rule
semaphore_effect semaphore (Wait timeout) =
    at_once (nat_lt 0 semaphore.value) SemaphoreIsAtZero timeout
semaphore_effect semaphore _ = Served

-- the first waiter, if there is one, is a receiver
abbrev pub is_for_receiver : Roster → Option ℕ → Bool
is_for_receiver roster None = false
is_for_receiver roster (Some q) = is_receiver (record_at roster q).wait

-- the buffer holds a message
abbrev pub holds_message : List Message → Bool
holds_message messages = nat_lt 0 (length messages)

-- buffers: a message goes to a receiver that waits, or into the buffer; one is taken out of it
abbrev pub buffer_effect : Roster → BufferObject → ℕ → BufferService → Rule
buffer_effect roster buffer b (Send message timeout) =
    at_once (is_for_receiver roster (first_waiter roster (queues.Buffer b))
    || nat_lt (length buffer.messages) buffer.capacity) BufferIsFull timeout
buffer_effect roster buffer b (Receive timeout) =
    at_once (holds_message buffer.messages) BufferIsEmpty timeout

-- blackboards: a read gets the message
abbrev pub blackboard_effect : BlackboardObject → BlackboardService → Rule
blackboard_effect blackboard (Read timeout) =
    at_once (is_some blackboard.message) BlackboardIsEmpty timeout
blackboard_effect blackboard _ = Served

-- event flags: a wait finds the flag up
abbrev pub event_flag_effect : EventFlagObject → EventFlagService → Rule
event_flag_effect event_flag (events.Wait timeout) =
    at_once event_flag.up EventFlagIsDown timeout
event_flag_effect event_flag _ = Served

-- mutexes: the caller owns the mutex already, or it is free
abbrev pub mutex_effect : Roster → Caller → ℕ → MutexService → Rule
mutex_effect roster caller m (Acquire timeout) =
    at_once (is_some (holding_of m (record_of roster caller).owned) || is_none (owner roster m))
    MutexIsOwned timeout
mutex_effect roster caller m _ = Served

-- what the services that one kind alone has do, on the object at a place
abbrev pub OwnEffect : Type 0 → Type 0 → Type 0
OwnEffect X W = X → ℕ → W → Rule

-- a call on the mutexes, whose owners the roster has
abbrev pub mutex_call_effect : Roster → Caller → ObjectCall ℕ MutexService → Rule
mutex_call_effect roster caller (KindService m service) = mutex_effect roster caller m service
mutex_call_effect roster caller _ = Served

-- a call on the objects of a kind; what each kind has is carried out at once
abbrev pub kind_effect : {C X W : Type 0} → ObjectKind C X W → OwnEffect X W → List X
    → ObjectCall ℕ W → Rule
kind_effect kind own objects (KindService i service) =
    own (slice_index_or objects i kind.absent) i service
kind_effect kind own objects _ = Served

-- the services that a process asks for itself
abbrev pub caller_effect : CallerCall → Rule
caller_effect (SuspendSelf timeout) = asked_wait AsksForSuspension timeout
caller_effect _ = Served

-- time management
abbrev pub time_effect : TimeCall → Rule
time_effect (TimedWait timeout) = asked_wait AsksForTime timeout
time_effect PeriodicWait = Waits AsksForRelease
time_effect _ = Served

-- what the caller's call does if no guard of its row holds
abbrev pub effect_of_call : Roster → Objects → Caller → Call → Rule
effect_of_call roster objects caller (Partition call) = Served
effect_of_call roster objects caller (Process call) = Served
effect_of_call roster objects caller (ToCaller call) = caller_effect call
effect_of_call roster objects caller (Time call) = time_effect call
effect_of_call roster objects caller (Semaphore call) =
    kind_effect semaphore_kind (λ x s. semaphore_effect x) objects.semaphores call
effect_of_call roster objects caller (Buffer call) =
    kind_effect buffer_kind (buffer_effect roster) objects.buffers call
effect_of_call roster objects caller (Blackboard call) =
    kind_effect blackboard_kind (λ x b. blackboard_effect x) objects.blackboards call
effect_of_call roster objects caller (EventFlag call) =
    kind_effect event_flag_kind (λ x e. event_flag_effect x) objects.event_flags call
effect_of_call roster objects caller (Mutex call) = mutex_call_effect roster caller call
effect_of_call roster objects caller (Work amount) = Served
