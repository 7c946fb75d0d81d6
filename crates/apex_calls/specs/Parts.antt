-- A call as the arguments of its service, and back. Each argument has the field of its shape.
use Rattle.std.specs.Prelude.{ℕ, ◌≤◌}
use Rattle.apex_calls.specs.Terms.{Arguments, BlackboardService, BufferService, Call, CallerCall, EventFlagService, MutexService, Named, ObjectCall, PartitionCall, ProcessService, SemaphoreService, Service, Shape, TimeCall}
use Rattle.apex_types.specs.declared.calls.BlackboardService.TheVariants.{Display, Read, Clear}
use Rattle.apex_types.specs.declared.calls.BufferService.TheVariants.{Send, Receive}
use Rattle.apex_types.specs.declared.calls.Call.TheVariants.{Partition, Process, Caller, Time, Semaphore, Buffer, Blackboard, EventFlag, Mutex, Work}
use Rattle.apex_types.specs.declared.calls.CallerCall.TheVariants.{StopSelf, SuspendSelf, GetMyId, GetMyProcessorCoreId}
use Rattle.apex_types.specs.declared.calls.EventFlagService.TheVariants.{Set, Reset, Wait as WaitFor}
use Rattle.apex_types.specs.declared.calls.MutexService.TheVariants.{Acquire, Release}
use Rattle.apex_types.specs.declared.calls.Named.TheVariants.{Known}
use Rattle.apex_types.specs.declared.calls.ObjectCall.TheVariants.{Create, GetId, GetStatus, KindService}
use Rattle.apex_types.specs.declared.calls.Origin.TheVariants.{Init}
use Rattle.apex_types.specs.declared.calls.PartitionCall.TheVariants.{SetPartitionMode, GetPartitionStatus}
use Rattle.apex_types.specs.declared.calls.ProcessService.TheVariants.{InitializeCoreAffinity, SetPriority, Start, DelayedStart, Stop, Suspend, Resume}
use Rattle.apex_types.specs.declared.calls.RequestedMode.TheVariants.{Idle}
use Rattle.apex_types.specs.declared.calls.SemaphoreService.TheVariants.{Wait, Signal}
use Rattle.apex_types.specs.declared.calls.TimeCall.TheVariants.{TimedWait, PeriodicWait, Replenish, GetTime}
use Rattle.apex_types.specs.declared.calls.Timeout.TheVariants.{Poll}
use Rattle.apex_calls.specs.declared.catalogue.Service.TheVariants as services
use Rattle.apex_calls.specs.declared.catalogue.Shape.TheVariants.{Number}

-- the arguments of a service without any
abbrev pub no_arguments : Arguments
no_arguments = record {
  named = Known 0;
  entry = 0;
  number = 0;
  timeout = Poll;
  message = record { origin = Init 0; length = 0 };
  mode = Idle;
}

-- those of an entry alone
abbrev pub of_entry : ℕ → Arguments
of_entry i = record no_arguments { entry = i }

-- those of a name alone
abbrev pub of_named : Named ℕ → Arguments
of_named named = record no_arguments { named = named }

-- the number, if the shape has one, is in its range
abbrev pub IsInRange : Arguments → Shape → Type 0
IsInRange a (Number low high) = (low ≤ a.number) × (a.number ≤ high)
IsInRange a _ = Unit {0}

-- the call of a service with these arguments
abbrev pub call_of : Service → Arguments → Call
call_of services.SetPartitionMode a = Partition (SetPartitionMode a.mode)
call_of services.GetPartitionStatus a = Partition GetPartitionStatus
call_of services.CreateProcess a = Process (Create a.named)
call_of services.GetProcessId a = Process (GetId a.named)
call_of services.GetProcessStatus a = Process (GetStatus a.entry)
call_of services.InitializeProcessCoreAffinity a =
    Process (KindService a.entry (InitializeCoreAffinity a.number))
call_of services.SetPriority a = Process (KindService a.entry (SetPriority a.number))
call_of services.Start a = Process (KindService a.entry Start)
call_of services.DelayedStart a = Process (KindService a.entry (DelayedStart a.timeout))
call_of services.Stop a = Process (KindService a.entry Stop)
call_of services.Suspend a = Process (KindService a.entry Suspend)
call_of services.Resume a = Process (KindService a.entry Resume)
call_of services.StopSelf a = Caller StopSelf
call_of services.SuspendSelf a = Caller (SuspendSelf a.timeout)
call_of services.GetMyId a = Caller GetMyId
call_of services.GetMyProcessorCoreId a = Caller GetMyProcessorCoreId
call_of services.TimedWait a = Time (TimedWait a.timeout)
call_of services.PeriodicWait a = Time PeriodicWait
call_of services.Replenish a = Time (Replenish a.number)
call_of services.GetTime a = Time GetTime
call_of services.Work a = Work a.number
call_of services.CreateSemaphore a = Semaphore (Create a.named)
call_of services.GetSemaphoreId a = Semaphore (GetId a.named)
call_of services.GetSemaphoreStatus a = Semaphore (GetStatus a.entry)
call_of services.WaitSemaphore a = Semaphore (KindService a.entry (Wait a.timeout))
call_of services.SignalSemaphore a = Semaphore (KindService a.entry Signal)
call_of services.CreateBuffer a = Buffer (Create a.named)
call_of services.GetBufferId a = Buffer (GetId a.named)
call_of services.GetBufferStatus a = Buffer (GetStatus a.entry)
call_of services.SendBuffer a = Buffer (KindService a.entry (Send a.message a.timeout))
call_of services.ReceiveBuffer a = Buffer (KindService a.entry (Receive a.timeout))
call_of services.CreateBlackboard a = Blackboard (Create a.named)
call_of services.GetBlackboardId a = Blackboard (GetId a.named)
call_of services.GetBlackboardStatus a = Blackboard (GetStatus a.entry)
call_of services.DisplayBlackboard a = Blackboard (KindService a.entry (Display a.message))
call_of services.ReadBlackboard a = Blackboard (KindService a.entry (Read a.timeout))
call_of services.ClearBlackboard a = Blackboard (KindService a.entry Clear)
call_of services.CreateEvent a = EventFlag (Create a.named)
call_of services.GetEventId a = EventFlag (GetId a.named)
call_of services.GetEventStatus a = EventFlag (GetStatus a.entry)
call_of services.SetEvent a = EventFlag (KindService a.entry Set)
call_of services.ResetEvent a = EventFlag (KindService a.entry Reset)
call_of services.WaitEvent a = EventFlag (KindService a.entry (WaitFor a.timeout))
call_of services.CreateMutex a = Mutex (Create a.named)
call_of services.GetMutexId a = Mutex (GetId a.named)
call_of services.GetMutexStatus a = Mutex (GetStatus a.entry)
call_of services.AcquireMutex a = Mutex (KindService a.entry (Acquire a.timeout))
call_of services.ReleaseMutex a = Mutex (KindService a.entry Release)

-- a service for a process that is named, with the arguments of its entry
abbrev pub process_service_parts : ProcessService → Arguments → Service × Arguments
process_service_parts (InitializeCoreAffinity core) a =
    (services.InitializeProcessCoreAffinity, record a { number = core })
process_service_parts (SetPriority priority) a =
    (services.SetPriority, record a { number = priority })
process_service_parts Start a = (services.Start, a)
process_service_parts (DelayedStart timeout) a =
    (services.DelayedStart, record a { timeout = timeout })
process_service_parts Stop a = (services.Stop, a)
process_service_parts Suspend a = (services.Suspend, a)
process_service_parts Resume a = (services.Resume, a)

-- a call of such a service
abbrev pub process_parts : ObjectCall ℕ ProcessService → Service × Arguments
process_parts (Create named) = (services.CreateProcess, of_named named)
process_parts (GetId named) = (services.GetProcessId, of_named named)
process_parts (GetStatus i) = (services.GetProcessStatus, of_entry i)
process_parts (KindService i service) = process_service_parts service (of_entry i)

-- a service of semaphores, with the arguments of its entry
abbrev pub semaphore_service_parts : SemaphoreService → Arguments → Service × Arguments
semaphore_service_parts (Wait timeout) a = (services.WaitSemaphore, record a { timeout = timeout })
semaphore_service_parts Signal a = (services.SignalSemaphore, a)

-- a call of such a service
abbrev pub semaphore_parts : ObjectCall ℕ SemaphoreService → Service × Arguments
semaphore_parts (Create named) = (services.CreateSemaphore, of_named named)
semaphore_parts (GetId named) = (services.GetSemaphoreId, of_named named)
semaphore_parts (GetStatus i) = (services.GetSemaphoreStatus, of_entry i)
semaphore_parts (KindService i service) = semaphore_service_parts service (of_entry i)

-- a service of buffers, with the arguments of its entry
abbrev pub buffer_service_parts : BufferService → Arguments → Service × Arguments
buffer_service_parts (Send message timeout) a =
    (services.SendBuffer, record a { message = message; timeout = timeout })
buffer_service_parts (Receive timeout) a = (services.ReceiveBuffer, record a { timeout = timeout })

-- a call of such a service
abbrev pub buffer_parts : ObjectCall ℕ BufferService → Service × Arguments
buffer_parts (Create named) = (services.CreateBuffer, of_named named)
buffer_parts (GetId named) = (services.GetBufferId, of_named named)
buffer_parts (GetStatus i) = (services.GetBufferStatus, of_entry i)
buffer_parts (KindService i service) = buffer_service_parts service (of_entry i)

-- a service of blackboards, with the arguments of its entry
abbrev pub blackboard_service_parts : BlackboardService → Arguments → Service × Arguments
blackboard_service_parts (Display message) a =
    (services.DisplayBlackboard, record a { message = message })
blackboard_service_parts (Read timeout) a =
    (services.ReadBlackboard, record a { timeout = timeout })
blackboard_service_parts Clear a = (services.ClearBlackboard, a)

-- a call of such a service
abbrev pub blackboard_parts : ObjectCall ℕ BlackboardService → Service × Arguments
blackboard_parts (Create named) = (services.CreateBlackboard, of_named named)
blackboard_parts (GetId named) = (services.GetBlackboardId, of_named named)
blackboard_parts (GetStatus i) = (services.GetBlackboardStatus, of_entry i)
blackboard_parts (KindService i service) = blackboard_service_parts service (of_entry i)

-- a service of event flags, with the arguments of its entry
abbrev pub event_flag_service_parts : EventFlagService → Arguments → Service × Arguments
event_flag_service_parts Set a = (services.SetEvent, a)
event_flag_service_parts Reset a = (services.ResetEvent, a)
event_flag_service_parts (WaitFor timeout) a = (services.WaitEvent, record a { timeout = timeout })

-- a call of such a service
abbrev pub event_flag_parts : ObjectCall ℕ EventFlagService → Service × Arguments
event_flag_parts (Create named) = (services.CreateEvent, of_named named)
event_flag_parts (GetId named) = (services.GetEventId, of_named named)
event_flag_parts (GetStatus i) = (services.GetEventStatus, of_entry i)
event_flag_parts (KindService i service) = event_flag_service_parts service (of_entry i)

-- a service of mutexes, with the arguments of its entry
abbrev pub mutex_service_parts : MutexService → Arguments → Service × Arguments
mutex_service_parts (Acquire timeout) a = (services.AcquireMutex, record a { timeout = timeout })
mutex_service_parts Release a = (services.ReleaseMutex, a)

-- a call of such a service
abbrev pub mutex_parts : ObjectCall ℕ MutexService → Service × Arguments
mutex_parts (Create named) = (services.CreateMutex, of_named named)
mutex_parts (GetId named) = (services.GetMutexId, of_named named)
mutex_parts (GetStatus i) = (services.GetMutexStatus, of_entry i)
mutex_parts (KindService i service) = mutex_service_parts service (of_entry i)

-- a call of partition management
abbrev pub partition_parts : PartitionCall → Service × Arguments
partition_parts (SetPartitionMode mode) = (services.SetPartitionMode, record no_arguments { mode = mode })
partition_parts GetPartitionStatus = (services.GetPartitionStatus, no_arguments)

-- a call that a process makes for itself
abbrev pub caller_parts : CallerCall → Service × Arguments
caller_parts StopSelf = (services.StopSelf, no_arguments)
caller_parts (SuspendSelf timeout) = (services.SuspendSelf, record no_arguments { timeout = timeout })
caller_parts GetMyId = (services.GetMyId, no_arguments)
caller_parts GetMyProcessorCoreId = (services.GetMyProcessorCoreId, no_arguments)

-- a call of time management
abbrev pub time_parts : TimeCall → Service × Arguments
time_parts (TimedWait timeout) = (services.TimedWait, record no_arguments { timeout = timeout })
time_parts PeriodicWait = (services.PeriodicWait, no_arguments)
time_parts (Replenish budget) = (services.Replenish, record no_arguments { number = budget })
time_parts GetTime = (services.GetTime, no_arguments)

-- the service that a call asks for, and its arguments
abbrev pub parts_of : Call → Service × Arguments
parts_of (Partition call) = partition_parts call
parts_of (Process call) = process_parts call
parts_of (Caller call) = caller_parts call
parts_of (Time call) = time_parts call
parts_of (Semaphore call) = semaphore_parts call
parts_of (Buffer call) = buffer_parts call
parts_of (Blackboard call) = blackboard_parts call
parts_of (EventFlag call) = event_flag_parts call
parts_of (Mutex call) = mutex_parts call
parts_of (Work amount) = (services.Work, record no_arguments { number = amount })
