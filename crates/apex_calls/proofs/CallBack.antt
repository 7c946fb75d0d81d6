-- A call is that of its own parts.
use Rattle.std.proofs.Common.{◌≡◌, ℕ, refl}
use Rattle.apex_calls.specs.Terms.{BlackboardService, BufferService, Call, EventFlagService, MutexService, ProcessService, SemaphoreService}
use Rattle.apex_types.specs.declared.calls.BlackboardService.TheVariants.{Display}
use Rattle.apex_types.specs.declared.calls.BufferService.TheVariants.{Send}
use Rattle.apex_types.specs.declared.calls.Call.TheVariants.{Partition, Process, Caller, Time, Semaphore, Buffer, Blackboard, EventFlag, Mutex}
use Rattle.apex_types.specs.declared.calls.CallerCall.TheVariants.{StopSelf}
use Rattle.apex_types.specs.declared.calls.EventFlagService.TheVariants.{Set}
use Rattle.apex_types.specs.declared.calls.MutexService.TheVariants.{Release}
use Rattle.apex_types.specs.declared.calls.ObjectCall.TheVariants.{KindService}
use Rattle.apex_types.specs.declared.calls.PartitionCall.TheVariants.{GetPartitionStatus}
use Rattle.apex_types.specs.declared.calls.ProcessService.TheVariants.{Start}
use Rattle.apex_types.specs.declared.calls.SemaphoreService.TheVariants.{Signal}
use Rattle.apex_types.specs.declared.calls.TimeCall.TheVariants.{GetTime}
use Rattle.apex_calls.specs.Parts.{call_of, parts_of}

-- the call of the parts
abbrev of_parts : Call → Call
of_parts call = call_of (parts_of call).0 (parts_of call).1

process_back : (i : ℕ) (service : ProcessService) → of_parts (Process (KindService i service)) ≡ Process (KindService i service)
process_back i Start = refl
process_back i _ = refl

semaphore_back : (i : ℕ) (service : SemaphoreService) → of_parts (Semaphore (KindService i service)) ≡ Semaphore (KindService i service)
semaphore_back i Signal = refl
semaphore_back i _ = refl

buffer_back : (i : ℕ) (service : BufferService) → of_parts (Buffer (KindService i service)) ≡ Buffer (KindService i service)
buffer_back i (Send message timeout) = refl
buffer_back i _ = refl

blackboard_back : (i : ℕ) (service : BlackboardService) → of_parts (Blackboard (KindService i service)) ≡ Blackboard (KindService i service)
blackboard_back i (Display message) = refl
blackboard_back i _ = refl

event_flag_back : (i : ℕ) (service : EventFlagService) → of_parts (EventFlag (KindService i service)) ≡ EventFlag (KindService i service)
event_flag_back i Set = refl
event_flag_back i _ = refl

mutex_back : (i : ℕ) (service : MutexService) → of_parts (Mutex (KindService i service)) ≡ Mutex (KindService i service)
mutex_back i Release = refl
mutex_back i _ = refl

pub call_back : (call : Call) → of_parts call ≡ call
call_back (Process (KindService i service)) = process_back i service
call_back (Semaphore (KindService i service)) = semaphore_back i service
call_back (Buffer (KindService i service)) = buffer_back i service
call_back (Blackboard (KindService i service)) = blackboard_back i service
call_back (EventFlag (KindService i service)) = event_flag_back i service
call_back (Mutex (KindService i service)) = mutex_back i service
call_back (Partition GetPartitionStatus) = refl
call_back (Caller StopSelf) = refl
call_back (Time GetTime) = refl
call_back _ = refl
