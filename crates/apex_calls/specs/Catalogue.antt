-- The services: a row for each, with its word, the shapes of the words behind it, and whether an init
-- list may have it (ARINC 653 Part 1; mutexes and `work`: this profile).
use Rattle.std.specs.Prelude.{◌≡◌, ℕ, codes, Bool, true, false, List, [], ◌∷◌, map, Option}
use Rattle.std.specs.List.{find}
use Rattle.std.specs.Str.{bytes_eq}
use Rattle.apex_types.specs.declared.limits.TheConstants.{MOST_SPAN, MOST_WORK}
use Rattle.apex_calls.specs.declared.catalogue.Row as declared
use Rattle.apex_calls.specs.declared.catalogue.Kind.TheVariants.{Process, Semaphore, Buffer, Blackboard, EventFlag, Mutex}
use Rattle.apex_calls.specs.Terms.{Service, Shape}
use Rattle.apex_calls.specs.declared.catalogue.Service.TheVariants as services
use Rattle.apex_calls.specs.declared.catalogue.Shape.TheVariants.{Entry, Named, Number, Timeout, Message, Mode}

-- a service, its word in a step, the shapes of the words behind it, and whether an init list may have it
pub record Row : Type 0 where
  pub service : Service
  pub word : List ℕ
  pub shapes : List Shape
  pub may_init : Bool

-- a row, by its parts
abbrev pub row : Service → List ℕ → List Shape → Bool → Row
row service word shapes may_init =
    record { service = service; word = word; shapes = shapes; may_init = may_init }

-- a row of the code, as a call sees it
abbrev pub view : declared.Row → Row
view given = row given.service given.word.now given.shapes.now given.may_init

-- the row of each service
abbrev pub row_of : Service → Row
row_of services.SetPartitionMode =
    row services.SetPartitionMode (codes "SET_PARTITION_MODE") (Mode ∷ []) true
row_of services.GetPartitionStatus =
    row services.GetPartitionStatus (codes "GET_PARTITION_STATUS") [] true
row_of services.CreateProcess =
    row services.CreateProcess (codes "CREATE_PROCESS") (Named Process ∷ []) true
row_of services.GetProcessId =
    row services.GetProcessId (codes "GET_PROCESS_ID") (Named Process ∷ []) true
row_of services.GetProcessStatus =
    row services.GetProcessStatus (codes "GET_PROCESS_STATUS") (Entry Process ∷ []) true
row_of services.InitializeProcessCoreAffinity =
    row services.InitializeProcessCoreAffinity (codes "INITIALIZE_PROCESS_CORE_AFFINITY")
    (Entry Process ∷ Number 0 255 ∷ []) true
row_of services.SetPriority =
    row services.SetPriority (codes "SET_PRIORITY") (Entry Process ∷ Number 0 65535 ∷ []) true
row_of services.Start = row services.Start (codes "START") (Entry Process ∷ []) true
row_of services.DelayedStart =
    row services.DelayedStart (codes "DELAYED_START") (Entry Process ∷ Timeout ∷ []) true
row_of services.Stop = row services.Stop (codes "STOP") (Entry Process ∷ []) true
row_of services.Suspend = row services.Suspend (codes "SUSPEND") (Entry Process ∷ []) false
row_of services.Resume = row services.Resume (codes "RESUME") (Entry Process ∷ []) false
row_of services.StopSelf = row services.StopSelf (codes "STOP_SELF") [] false
row_of services.SuspendSelf = row services.SuspendSelf (codes "SUSPEND_SELF") (Timeout ∷ []) false
row_of services.GetMyId = row services.GetMyId (codes "GET_MY_ID") [] false
row_of services.GetMyProcessorCoreId =
    row services.GetMyProcessorCoreId (codes "GET_MY_PROCESSOR_CORE_ID") [] false
row_of services.TimedWait = row services.TimedWait (codes "TIMED_WAIT") (Timeout ∷ []) false
row_of services.PeriodicWait = row services.PeriodicWait (codes "PERIODIC_WAIT") [] false
row_of services.Replenish =
    row services.Replenish (codes "REPLENISH") (Number 1 MOST_SPAN ∷ []) false
row_of services.GetTime = row services.GetTime (codes "GET_TIME") [] true
row_of services.Work = row services.Work (codes "work") (Number 1 MOST_WORK ∷ []) false
row_of services.CreateSemaphore =
    row services.CreateSemaphore (codes "CREATE_SEMAPHORE") (Named Semaphore ∷ []) true
row_of services.GetSemaphoreId =
    row services.GetSemaphoreId (codes "GET_SEMAPHORE_ID") (Named Semaphore ∷ []) true
row_of services.GetSemaphoreStatus =
    row services.GetSemaphoreStatus (codes "GET_SEMAPHORE_STATUS") (Entry Semaphore ∷ []) true
row_of services.WaitSemaphore =
    row services.WaitSemaphore (codes "WAIT_SEMAPHORE") (Entry Semaphore ∷ Timeout ∷ []) false
row_of services.SignalSemaphore =
    row services.SignalSemaphore (codes "SIGNAL_SEMAPHORE") (Entry Semaphore ∷ []) true
row_of services.CreateBuffer =
    row services.CreateBuffer (codes "CREATE_BUFFER") (Named Buffer ∷ []) true
row_of services.GetBufferId =
    row services.GetBufferId (codes "GET_BUFFER_ID") (Named Buffer ∷ []) true
row_of services.GetBufferStatus =
    row services.GetBufferStatus (codes "GET_BUFFER_STATUS") (Entry Buffer ∷ []) true
row_of services.SendBuffer =
    row services.SendBuffer (codes "SEND_BUFFER") (Entry Buffer ∷ Message ∷ Timeout ∷ []) false
row_of services.ReceiveBuffer =
    row services.ReceiveBuffer (codes "RECEIVE_BUFFER") (Entry Buffer ∷ Timeout ∷ []) false
row_of services.CreateBlackboard =
    row services.CreateBlackboard (codes "CREATE_BLACKBOARD") (Named Blackboard ∷ []) true
row_of services.GetBlackboardId =
    row services.GetBlackboardId (codes "GET_BLACKBOARD_ID") (Named Blackboard ∷ []) true
row_of services.GetBlackboardStatus =
    row services.GetBlackboardStatus (codes "GET_BLACKBOARD_STATUS") (Entry Blackboard ∷ []) true
row_of services.DisplayBlackboard =
    row services.DisplayBlackboard (codes "DISPLAY_BLACKBOARD")
    (Entry Blackboard ∷ Message ∷ []) true
row_of services.ReadBlackboard =
    row services.ReadBlackboard (codes "READ_BLACKBOARD") (Entry Blackboard ∷ Timeout ∷ []) false
row_of services.ClearBlackboard =
    row services.ClearBlackboard (codes "CLEAR_BLACKBOARD") (Entry Blackboard ∷ []) true
row_of services.CreateEvent =
    row services.CreateEvent (codes "CREATE_EVENT") (Named EventFlag ∷ []) true
row_of services.GetEventId =
    row services.GetEventId (codes "GET_EVENT_ID") (Named EventFlag ∷ []) true
row_of services.GetEventStatus =
    row services.GetEventStatus (codes "GET_EVENT_STATUS") (Entry EventFlag ∷ []) true
row_of services.SetEvent = row services.SetEvent (codes "SET_EVENT") (Entry EventFlag ∷ []) true
row_of services.ResetEvent =
    row services.ResetEvent (codes "RESET_EVENT") (Entry EventFlag ∷ []) true
row_of services.WaitEvent =
    row services.WaitEvent (codes "WAIT_EVENT") (Entry EventFlag ∷ Timeout ∷ []) false
row_of services.CreateMutex =
    row services.CreateMutex (codes "CREATE_MUTEX") (Named Mutex ∷ []) true
row_of services.GetMutexId = row services.GetMutexId (codes "GET_MUTEX_ID") (Named Mutex ∷ []) true
row_of services.GetMutexStatus =
    row services.GetMutexStatus (codes "GET_MUTEX_STATUS") (Entry Mutex ∷ []) true
row_of services.AcquireMutex =
    row services.AcquireMutex (codes "ACQUIRE_MUTEX") (Entry Mutex ∷ Timeout ∷ []) false
row_of services.ReleaseMutex =
    row services.ReleaseMutex (codes "RELEASE_MUTEX") (Entry Mutex ∷ []) false

-- the services, in the order of the code's rows
abbrev pub all_services : List Service
all_services =
    services.SetPartitionMode ∷ services.GetPartitionStatus ∷ services.CreateProcess
    ∷ services.GetProcessId ∷ services.GetProcessStatus ∷ services.InitializeProcessCoreAffinity
    ∷ services.SetPriority ∷ services.Start ∷ services.DelayedStart ∷ services.Stop
    ∷ services.Suspend ∷ services.Resume ∷ services.StopSelf ∷ services.SuspendSelf
    ∷ services.GetMyId ∷ services.GetMyProcessorCoreId ∷ services.TimedWait ∷ services.PeriodicWait
    ∷ services.Replenish ∷ services.GetTime ∷ services.Work ∷ services.CreateSemaphore
    ∷ services.GetSemaphoreId ∷ services.GetSemaphoreStatus ∷ services.WaitSemaphore
    ∷ services.SignalSemaphore ∷ services.CreateBuffer ∷ services.GetBufferId
    ∷ services.GetBufferStatus ∷ services.SendBuffer ∷ services.ReceiveBuffer
    ∷ services.CreateBlackboard ∷ services.GetBlackboardId ∷ services.GetBlackboardStatus
    ∷ services.DisplayBlackboard ∷ services.ReadBlackboard ∷ services.ClearBlackboard
    ∷ services.CreateEvent ∷ services.GetEventId ∷ services.GetEventStatus ∷ services.SetEvent
    ∷ services.ResetEvent ∷ services.WaitEvent ∷ services.CreateMutex ∷ services.GetMutexId
    ∷ services.GetMutexStatus ∷ services.AcquireMutex ∷ services.ReleaseMutex ∷ []

-- the rows of all services
abbrev pub rows : List Row
rows = map row_of all_services

-- the row that has this word
abbrev pub row_in : List Row → List ℕ → Option Row
row_in rows word = find (λ (r : Row). bytes_eq r.word word) rows

-- the row is that of its service
pub record IsRow (r : Row) : Type 0 where
  pub own : row_of r.service ≡ r
