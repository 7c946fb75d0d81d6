-- The guards of every service, in the order of the machine's rows (this profile).
use Rattle.std.specs.Prelude.{◌+◌, List, [], ◌∷◌, is_none, not}
use Rattle.apex_types.specs.Modes.{is_normal}
use Rattle.apex_types.specs.declared.calls.Call.TheVariants.{Partition, Process, Caller as ToCaller, Time, Semaphore, Buffer, Blackboard, EventFlag, Mutex, Work}
use Rattle.apex_types.specs.declared.calls.CallerCall.TheVariants.{SuspendSelf}
use Rattle.apex_types.specs.declared.calls.PartitionCall.TheVariants.{SetPartitionMode}
use Rattle.apex_types.specs.declared.calls.RequestedMode.TheVariants as requested
use Rattle.apex_types.specs.declared.calls.TimeCall.TheVariants.{TimedWait, PeriodicWait, Replenish, GetTime}
use Rattle.apex_machine.specs.Deeds.{Objects}
use Rattle.apex_machine.specs.processes.Owners.{is_owner, record_of}
use Rattle.apex_machine.specs.processes.Periods.{is_beyond, is_periodic}
use Rattle.apex_machine.specs.processes.Roster.{Roster}
use Rattle.apex_machine.specs.services.BlackboardServices.{blackboard_kind}
use Rattle.apex_machine.specs.services.BufferServices.{buffer_kind}
use Rattle.apex_machine.specs.services.EventFlagServices.{event_flag_kind}
use Rattle.apex_machine.specs.services.MutexServices.{mutex_kind}
use Rattle.apex_machine.specs.services.ProcessServices.{process_kind, is_infinite}
use Rattle.apex_machine.specs.services.SemaphoreServices.{semaphore_kind}
use Rattle.apex_reasons.specs.Terms.{Call, Caller, CallerCall, PartitionCall, TimeCall}
use Rattle.apex_reasons.specs.Callers.{is_no_process}
use Rattle.apex_reasons.specs.Guards.{Tested, ◌when◌}
use Rattle.apex_reasons.specs.ObjectRows.{kind_row, process_row, semaphore_row, buffer_row, blackboard_row, event_flag_row, mutex_row}
use Rattle.apex_reasons.specs.declared.guards.Guard.TheVariants.{ModeIsNormalAlready, NoCaller, CallerIsPeriodic, CallerIsAperiodic, CallerOwnsMutex, InfiniteTimedWait, InfiniteCapacity, DeadlinePastPeriod}

-- the guards of partition management
abbrev pub partition_row : Roster → PartitionCall → List Tested
partition_row roster (SetPartitionMode requested.Normal) =
    ModeIsNormalAlready when is_normal roster.mode ∷ []
partition_row roster _ = []

-- the guards of the services that a process asks for itself
abbrev pub caller_row : Roster → Caller → CallerCall → List Tested
caller_row roster caller (SuspendSelf timeout) =
    NoCaller when is_no_process caller
    ∷ CallerIsPeriodic when is_periodic (record_of roster caller)
    ∷ CallerOwnsMutex when is_owner roster caller ∷ []
caller_row roster caller _ = NoCaller when is_no_process caller ∷ []

-- the guards of time management
abbrev pub time_row : Roster → Caller → TimeCall → List Tested
time_row roster caller (TimedWait timeout) =
    CallerOwnsMutex when is_owner roster caller
    ∷ NoCaller when is_no_process caller ∷ InfiniteTimedWait when is_infinite timeout ∷ []
time_row roster caller PeriodicWait =
    NoCaller when is_no_process caller
    ∷ CallerIsAperiodic when not (is_periodic (record_of roster caller))
    ∷ CallerOwnsMutex when is_owner roster caller ∷ []
time_row roster caller (Replenish budget) =
    let r = record_of roster caller in
    NoCaller when is_no_process caller
    ∷ InfiniteCapacity when is_none r.attributes.capacity
    ∷ DeadlinePastPeriod when is_beyond r.release r.attributes.period (roster.now + budget) ∷ []
time_row roster caller GetTime = []

-- the guards of the caller's call, each with whether it holds
abbrev pub row_of_call : Roster → Objects → Caller → Call → List Tested
row_of_call roster objects caller (Partition call) = partition_row roster call
row_of_call roster objects caller (Process call) =
    kind_row process_kind process_row roster objects.processes caller call
row_of_call roster objects caller (ToCaller call) = caller_row roster caller call
row_of_call roster objects caller (Time call) = time_row roster caller call
row_of_call roster objects caller (Semaphore call) =
    kind_row semaphore_kind semaphore_row roster objects.semaphores caller call
row_of_call roster objects caller (Buffer call) =
    kind_row buffer_kind (λ roster x b. buffer_row roster x) roster
    objects.buffers caller call
row_of_call roster objects caller (Blackboard call) =
    kind_row blackboard_kind (λ roster x b. blackboard_row roster x) roster
    objects.blackboards caller call
row_of_call roster objects caller (EventFlag call) =
    kind_row event_flag_kind (λ roster x e. event_flag_row roster x) roster
    objects.event_flags caller call
row_of_call roster objects caller (Mutex call) =
    kind_row mutex_kind mutex_row roster objects.mutexes caller call
row_of_call roster objects caller (Work amount) = []
