-- The guards of the services of each kind of object, in the order of the machine's rows (this
-- profile).
use Rattle.std.specs.Prelude.{ℕ, true, List, [], ◌∷◌, Option, None, Some, is_none, is_some, nat_le, nat_lt, not, ◌&&◌, slice_index_or}
use Rattle.apex_types.specs.declared.limits.TheConstants.{MOST_PRIORITY}
use Rattle.apex_types.specs.Calls.{object_of}
use Rattle.apex_types.specs.Messages.{is_unfit}
use Rattle.apex_types.specs.Modes.{is_normal}
use Rattle.apex_types.specs.declared.calls.BlackboardService.TheVariants.{Display, Read, Clear}
use Rattle.apex_types.specs.declared.calls.BufferService.TheVariants.{Send, Receive}
use Rattle.apex_types.specs.declared.calls.EventFlagService.TheVariants as events
use Rattle.apex_types.specs.declared.calls.MutexService.TheVariants.{Acquire, Release}
use Rattle.apex_types.specs.declared.calls.ObjectCall.TheVariants.{Create, GetId, GetStatus, KindService}
use Rattle.apex_types.specs.declared.calls.ProcessService.TheVariants.{InitializeCoreAffinity, SetPriority, Start, DelayedStart, Stop, Suspend, Resume}
use Rattle.apex_types.specs.declared.calls.SemaphoreService.TheVariants.{Wait, Signal}
use Rattle.apex_types.specs.declared.calls.Timeout.TheVariants.{Poll}
use Rattle.apex_machine.specs.declared.records.Queue.TheVariants as queues
use Rattle.apex_machine.specs.processes.Owners.{ceiling_of, is_deepest, is_waiting_owner, may_not_wait, owns, owns_most, owns_some, record_of}
use Rattle.apex_machine.specs.processes.Roster.{Roster, record_at}
use Rattle.apex_machine.specs.processes.Waiters.{first_waiter}
use Rattle.apex_machine.specs.services.Callers.{is_by_process}
use Rattle.apex_machine.specs.services.Objects.{ObjectKind}
use Rattle.apex_machine.specs.services.BlackboardServices.{BlackboardObject}
use Rattle.apex_machine.specs.services.BufferServices.{BufferObject}
use Rattle.apex_machine.specs.services.EventFlagServices.{EventFlagObject}
use Rattle.apex_machine.specs.services.MutexServices.{MutexObject}
use Rattle.apex_machine.specs.services.ProcessServices.{ProcessObject, is_unfit_delay, is_unsuspendable}
use Rattle.apex_machine.specs.services.SemaphoreServices.{SemaphoreObject}
use Rattle.apex_reasons.specs.Terms.{BlackboardService, BufferService, Caller, EventFlagService, MutexService, ObjectCall, ProcessService, Record, SemaphoreService, Timeout}
use Rattle.apex_reasons.specs.Callers.{is_no_process}
use Rattle.apex_reasons.specs.Guards.{Tested, ◌when◌}
use Rattle.apex_reasons.specs.declared.guards.Guard.TheVariants.{ModeIsNormal, NoSuchEntry, AlreadyCreated, NotCreated, IdNotCreated, NoSuchCore, PriorityOutOfRange, DormantForPriority, AlreadyStarted, UnfitDelay, NamesCaller, AlreadyDormant, DormantOrPeriodic, AlreadySuspended, NotSuspended, OwnsMutex, NoCaller, OwnerWithTimeout, SemaphoreIsFull, UnfitMessage, OwnerOfAnotherWithTimeout, OwnsMost, BaseAboveCeiling, AtMostDepth, CallerIsNotOwner}

-- the guards of the services that one kind alone has, for the object at a place
abbrev pub OwnRow : Type 0 → Type 0 → Type 0
OwnRow X W = Roster → X → ℕ → Caller → W → List Tested

-- the guards of the three services that each kind has
abbrev pub common_row : {C X W : Type 0} → ObjectKind C X W → Roster → X → ObjectCall ℕ W
    → List Tested
common_row kind roster object (Create named) =
    ModeIsNormal when is_normal roster.mode ∷ AlreadyCreated when kind.created object ∷ []
common_row kind roster object (GetId named) = IdNotCreated when not (kind.created object) ∷ []
common_row kind roster object (GetStatus i) = NotCreated when not (kind.created object) ∷ []
common_row kind roster object (KindService i service) = []

-- the guards of a call on the object at a place
abbrev pub object_row : {C X W : Type 0} → ObjectKind C X W → OwnRow X W → Roster → X → ℕ → Caller
    → ObjectCall ℕ W → List Tested
object_row kind own roster object place caller (KindService i service) =
    own roster object place caller service
object_row kind own roster object place caller call = common_row kind roster object call

-- the guards of a call of a name that no entry has
abbrev pub no_entry_row : {I W : Type 0} → Roster → ObjectCall I W → List Tested
no_entry_row roster (Create named) =
    ModeIsNormal when is_normal roster.mode ∷ NoSuchEntry when true ∷ []
no_entry_row roster _ = NoSuchEntry when true ∷ []

-- the guards of a call on the object at this place, or on none
abbrev pub row_at : {C X W : Type 0} → ObjectKind C X W → OwnRow X W → Roster → List X → Caller
    → ObjectCall ℕ W → Option ℕ → List Tested
row_at kind own roster objects caller call None = no_entry_row roster call
row_at kind own roster objects caller call (Some i) =
    object_row kind own roster (slice_index_or objects i kind.absent) i caller call

-- the guards of a call on the objects of a kind
abbrev pub kind_row : {C X W : Type 0} → ObjectKind C X W → OwnRow X W → Roster → List X → Caller
    → ObjectCall ℕ W → List Tested
kind_row kind own roster objects caller call =
    row_at kind own roster objects caller call (object_of call)

-- the guards of INITIALIZE_PROCESS_CORE_AFFINITY
abbrev pub core_row : Roster → ProcessObject → ℕ → List Tested
core_row roster process core =
    ModeIsNormal when is_normal roster.mode
    ∷ NotCreated when not process.created
    ∷ NoSuchCore when not (nat_lt core roster.cores) ∷ []

-- the guards of SET_PRIORITY of a process with this record
abbrev pub priority_row : Record → ProcessObject → ℕ → List Tested
priority_row r process priority =
    NotCreated when not process.created
    ∷ PriorityOutOfRange when not (nat_le 1 priority && nat_le priority MOST_PRIORITY)
    ∷ DormantForPriority when not r.started ∷ []

-- the guards of a START after this delay
abbrev pub start_row : Record → ProcessObject → Timeout → List Tested
start_row r process delay =
    NotCreated when not process.created
    ∷ AlreadyStarted when r.started
    ∷ UnfitDelay when is_unfit_delay r delay ∷ []

-- the guards of STOP, of SUSPEND and of RESUME, of another process that is created
abbrev pub stop_row : Record → List Tested
stop_row r = AlreadyDormant when not r.started ∷ []

abbrev pub suspend_row : Record → List Tested
suspend_row r =
    DormantOrPeriodic when is_unsuspendable r
    ∷ AlreadySuspended when is_some r.suspended ∷ OwnsMutex when owns_some r ∷ []

abbrev pub resume_row : Record → List Tested
resume_row r =
    DormantOrPeriodic when is_unsuspendable r ∷ NotSuspended when is_none r.suspended ∷ []

-- the guards of a service for another process, and then these
abbrev pub of_another : Caller → ProcessObject → ℕ → List Tested → List Tested
of_another caller process p later =
    NamesCaller when is_by_process p caller ∷ NotCreated when not process.created ∷ later

-- the guards of the services that processes alone have
abbrev pub process_row : OwnRow ProcessObject ProcessService
process_row roster process p caller (InitializeCoreAffinity core) = core_row roster process core
process_row roster process p caller (SetPriority priority) =
    priority_row (record_at roster p) process priority
process_row roster process p caller Start = start_row (record_at roster p) process Poll
process_row roster process p caller (DelayedStart delay) =
    start_row (record_at roster p) process delay
process_row roster process p caller Stop =
    of_another caller process p (stop_row (record_at roster p))
process_row roster process p caller Suspend =
    of_another caller process p (suspend_row (record_at roster p))
process_row roster process p caller Resume =
    of_another caller process p (resume_row (record_at roster p))

-- the guards of a service that may wait, after those of its object: the caller owns a mutex and
-- the timeout is not 0, or no process calls
abbrev pub waiting_row : Roster → Caller → Timeout → List Tested
waiting_row roster caller timeout =
    OwnerWithTimeout when is_waiting_owner roster caller timeout
    ∷ NoCaller when is_no_process caller ∷ []

-- the guards of the services that semaphores alone have
abbrev pub semaphore_row : OwnRow SemaphoreObject SemaphoreService
semaphore_row roster semaphore s caller (Wait timeout) =
    NotCreated when not semaphore.created ∷ waiting_row roster caller timeout
semaphore_row roster semaphore s caller Signal =
    NotCreated when not semaphore.created
    ∷ SemaphoreIsFull when (is_none (first_waiter roster (queues.Semaphore s))
    && not (nat_lt semaphore.value semaphore.maximum)) ∷ []

-- the guards of the services that buffers alone have
abbrev pub buffer_row : Roster → BufferObject → Caller → BufferService → List Tested
buffer_row roster buffer caller (Send message timeout) =
    NotCreated when not buffer.created
    ∷ UnfitMessage when is_unfit buffer.longest message ∷ waiting_row roster caller timeout
buffer_row roster buffer caller (Receive timeout) =
    NotCreated when not buffer.created ∷ waiting_row roster caller timeout

-- the guards of the services that blackboards alone have
abbrev pub blackboard_row : Roster → BlackboardObject → Caller → BlackboardService → List Tested
blackboard_row roster blackboard caller (Display message) =
    NotCreated when not blackboard.created
    ∷ UnfitMessage when is_unfit blackboard.longest message ∷ []
blackboard_row roster blackboard caller (Read timeout) =
    NotCreated when not blackboard.created ∷ waiting_row roster caller timeout
blackboard_row roster blackboard caller Clear = NotCreated when not blackboard.created ∷ []

-- the guards of the services that event flags alone have
abbrev pub event_flag_row : Roster → EventFlagObject → Caller → EventFlagService → List Tested
event_flag_row roster event_flag caller (events.Wait timeout) =
    NotCreated when not event_flag.created ∷ waiting_row roster caller timeout
event_flag_row roster event_flag caller _ = NotCreated when not event_flag.created ∷ []

-- the guards of ACQUIRE_MUTEX of mutex m that are about the mutexes that a caller with this record
-- owns, and then these
abbrev pub owner_row : Roster → ℕ → Record → Timeout → List Tested → List Tested
owner_row roster m r timeout later =
    OwnerOfAnotherWithTimeout when may_not_wait m timeout r
    ∷ OwnsMost when owns_most roster m r
    ∷ BaseAboveCeiling when nat_lt (ceiling_of roster m) r.base
    ∷ AtMostDepth when is_deepest m r ∷ later

-- the guards of the services that mutexes alone have
abbrev pub mutex_row : OwnRow MutexObject MutexService
mutex_row roster mutex m caller (Acquire timeout) =
    NotCreated when not mutex.created
    ∷ owner_row roster m (record_of roster caller) timeout
    (NoCaller when is_no_process caller ∷ [])
mutex_row roster mutex m caller Release =
    NotCreated when not mutex.created
    ∷ CallerIsNotOwner when not (owns m (record_of roster caller)) ∷ []
