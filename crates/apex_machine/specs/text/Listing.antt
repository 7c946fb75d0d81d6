-- The status listing of a machine, and the order in which processes wait (this profile).
use Rattle.std.specs.Prelude.{ℕ, zero, suc, List, [], ◌∷◌, ◌++◌, length, Option, None, Some, slice_index_or, if◌then◌else◌}
use Rattle.apex_machine.specs.Terms.{Queue}
use Rattle.apex_machine.specs.declared.records.Queue.TheVariants as queues
use Rattle.apex_machine.specs.table.Table.{Table}
use Rattle.apex_machine.specs.processes.Roster.{Roster, record_at}
use Rattle.apex_machine.specs.processes.Running.{chosen, process_state}
use Rattle.apex_machine.specs.processes.Waiters.{first_waiter, next_waiter}
use Rattle.apex_machine.specs.processes.Held.{holding_of}
use Rattle.apex_machine.specs.processes.Owners.{owner, depth_of}
use Rattle.apex_machine.specs.services.Objects.{ObjectKind}
use Rattle.apex_machine.specs.services.ProcessServices.{process_kind}
use Rattle.apex_machine.specs.services.SemaphoreServices.{SemaphoreObject, semaphore_kind}
use Rattle.apex_machine.specs.services.BufferServices.{BufferObject, buffer_kind}
use Rattle.apex_machine.specs.services.BlackboardServices.{BlackboardObject, blackboard_kind}
use Rattle.apex_machine.specs.services.EventFlagServices.{EventFlagObject, event_flag_kind}
use Rattle.apex_machine.specs.services.MutexServices.{mutex_kind}
use Rattle.apex_machine.specs.Deeds.{Objects}
use Rattle.apex_machine.specs.Machine.{Machine, objects_after}
use Rattle.apex_machine.specs.text.Status.{time_line, mode_line, history_line, core_line, process_line, semaphore_line, buffer_line, blackboard_line, event_flag_line, mutex_line}

-- this waiter and those behind it, n at the most: behind each comes the next waiter of its queue
abbrev pub waiters_from : Roster → Queue → ℕ → Option ℕ → List ℕ
waiters_from roster queue zero waiter = []
waiters_from roster queue (suc n) None = []
waiters_from roster queue (suc n) (Some p) =
    p ∷ waiters_from roster queue n (next_waiter roster queue p)

-- the waiters of a queue, from the first one on
unfoldable pub waiters : Roster → Queue → List ℕ
waiters roster queue = waiters_from roster queue (length roster.records) (first_waiter roster queue)

-- the texts of the first n things, one behind the other
abbrev pub texts_of : (ℕ → List ℕ) → ℕ → List ℕ
texts_of text zero = []
texts_of text (suc n) = texts_of text n ++ text n

-- the object of a kind at a place
abbrev pub object_in : {C X W : Type 0} → ObjectKind C X W → List X → ℕ → X
object_in kind objects i = slice_index_or objects i kind.absent

-- the line of an object if it is created, and nothing if it is not
abbrev pub if_created : {C X W : Type 0} → ObjectKind C X W → X → List ℕ → List ℕ
if_created kind object line = if kind.created object then line else []

-- the depth at which this owner owns mutex m; 0 without an owner
abbrev pub owned_depth : Roster → ℕ → Option ℕ → ℕ
owned_depth roster m None = 0
owned_depth roster m (Some p) = depth_of (holding_of m (record_at roster p).owned)

-- the listing of a core: its line
abbrev pub core_listing : Roster → ℕ → List ℕ
core_listing roster core = core_line core (chosen roster core)

-- the listing of a process: its line, if it is created
abbrev pub process_listing : Table → Roster → Objects → ℕ → List ℕ
process_listing table roster objects p =
    if_created process_kind (object_in process_kind objects.processes p)
    (process_line table p (process_state roster p) (record_at roster p))

-- the line of a semaphore
abbrev pub semaphore_status_line : Table → Roster → ℕ → SemaphoreObject → List ℕ
semaphore_status_line table roster s semaphore =
    semaphore_line table s semaphore.value (waiters roster (queues.Semaphore s))

-- the listing of a semaphore: its line, if it is created
abbrev pub semaphore_listing : Table → Roster → Objects → ℕ → List ℕ
semaphore_listing table roster objects s =
    let semaphore = object_in semaphore_kind objects.semaphores s in
    if_created semaphore_kind semaphore (semaphore_status_line table roster s semaphore)

-- the line of a buffer
abbrev pub buffer_status_line : Table → Roster → ℕ → BufferObject → List ℕ
buffer_status_line table roster b buffer =
    buffer_line table b buffer.messages (waiters roster (queues.Buffer b))

-- the listing of a buffer: its line, if it is created
abbrev pub buffer_listing : Table → Roster → Objects → ℕ → List ℕ
buffer_listing table roster objects b =
    let buffer = object_in buffer_kind objects.buffers b in
    if_created buffer_kind buffer (buffer_status_line table roster b buffer)

-- the line of a blackboard
abbrev pub blackboard_status_line : Table → Roster → ℕ → BlackboardObject → List ℕ
blackboard_status_line table roster b blackboard =
    blackboard_line table b blackboard.message (waiters roster (queues.Blackboard b))

-- the listing of a blackboard: its line, if it is created
abbrev pub blackboard_listing : Table → Roster → Objects → ℕ → List ℕ
blackboard_listing table roster objects b =
    let blackboard = object_in blackboard_kind objects.blackboards b in
    if_created blackboard_kind blackboard (blackboard_status_line table roster b blackboard)

-- the line of an event flag
abbrev pub event_flag_status_line : Table → Roster → ℕ → EventFlagObject → List ℕ
event_flag_status_line table roster e event_flag =
    event_flag_line table e event_flag.up (waiters roster (queues.EventFlag e))

-- the listing of an event flag: its line, if it is created
abbrev pub event_flag_listing : Table → Roster → Objects → ℕ → List ℕ
event_flag_listing table roster objects e =
    let event_flag = object_in event_flag_kind objects.event_flags e in
    if_created event_flag_kind event_flag (event_flag_status_line table roster e event_flag)

-- the line of a mutex
abbrev pub mutex_status_line : Table → Roster → ℕ → List ℕ
mutex_status_line table roster m =
    mutex_line table m (owner roster m) (owned_depth roster m (owner roster m))
    (waiters roster (queues.Mutex m))

-- the listing of a mutex: its line, if it is created
abbrev pub mutex_listing : Table → Roster → Objects → ℕ → List ℕ
mutex_listing table roster objects m =
    if_created mutex_kind (object_in mutex_kind objects.mutexes m)
    (mutex_status_line table roster m)

-- the listing of these objects and of a history of n entries: time, mode and number of entries,
-- each core, and then each created process and object, in the order of the table
abbrev pub listing_of : Table → Roster → Objects → ℕ → List ℕ
listing_of table roster objects entries =
    time_line roster.now ++ mode_line roster.mode ++ history_line entries
    ++ texts_of (core_listing roster) roster.cores
    ++ texts_of (process_listing table roster objects) (length table.processes)
    ++ texts_of (semaphore_listing table roster objects) (length table.semaphores)
    ++ texts_of (buffer_listing table roster objects) (length table.buffers)
    ++ texts_of (blackboard_listing table roster objects) (length table.blackboards)
    ++ texts_of (event_flag_listing table roster objects) (length table.event_flags)
    ++ texts_of (mutex_listing table roster objects) (length table.mutexes)

-- listing: the state of the machine, its objects read off the whole history
unfoldable pub listing : Table → Machine → List ℕ
listing table machine =
    listing_of table machine.roster (objects_after table machine.history) (length machine.history)
