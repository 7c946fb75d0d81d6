-- The status listing of a machine as objects, a line for each of its rows, in its order (this profile).
use Rattle.std.specs.Prelude.{ℕ, List, ◌++◌, length}
use Rattle.apex_machine.specs.Deeds.{Objects}
use Rattle.apex_machine.specs.Machine.{Machine, objects_after}
use Rattle.apex_machine.specs.declared.records.Queue.TheVariants as queues
use Rattle.apex_machine.specs.processes.Owners.{owner}
use Rattle.apex_machine.specs.processes.Roster.{Roster, record_at}
use Rattle.apex_machine.specs.processes.Running.{chosen, process_state}
use Rattle.apex_machine.specs.services.BlackboardServices.{blackboard_kind}
use Rattle.apex_machine.specs.services.BufferServices.{buffer_kind}
use Rattle.apex_machine.specs.services.EventFlagServices.{event_flag_kind}
use Rattle.apex_machine.specs.services.MutexServices.{mutex_kind}
use Rattle.apex_machine.specs.services.ProcessServices.{process_kind}
use Rattle.apex_machine.specs.services.SemaphoreServices.{semaphore_kind}
use Rattle.apex_machine.specs.table.Table.{Table}
use Rattle.apex_machine.specs.text.Listing.{if_created, object_in, owned_depth, texts_of, waiters}
use Rattle.apex_objects.specs.Rows.{time_object, mode_object, history_object, core_object, process_row, semaphore_row, buffer_row, blackboard_row, event_flag_row, mutex_row}

-- the rows that every listing has first: the time, the mode and the number of entries
abbrev pub head_objects : Roster → ℕ → List ℕ
head_objects roster entries =
    time_object roster.now ++ mode_object roster.mode ++ history_object entries

-- the object of a core
abbrev pub core_listed : Table → Roster → ℕ → List ℕ
core_listed table roster core = core_object table core (chosen roster core)

-- the object of a process, if it is created
abbrev pub process_listed : Table → Roster → Objects → ℕ → List ℕ
process_listed table roster objects p =
    if_created process_kind (object_in process_kind objects.processes p)
    (process_row table p (process_state roster p) (record_at roster p))

-- the object of a semaphore, if it is created
abbrev pub semaphore_listed : Table → Roster → Objects → ℕ → List ℕ
semaphore_listed table roster objects s =
    let semaphore = object_in semaphore_kind objects.semaphores s in
    if_created semaphore_kind semaphore
    (semaphore_row table s semaphore.value (waiters roster (queues.Semaphore s)))

-- the object of a buffer, if it is created
abbrev pub buffer_listed : Table → Roster → Objects → ℕ → List ℕ
buffer_listed table roster objects b =
    let buffer = object_in buffer_kind objects.buffers b in
    if_created buffer_kind buffer
    (buffer_row table b buffer.messages (waiters roster (queues.Buffer b)))

-- the object of a blackboard, if it is created
abbrev pub blackboard_listed : Table → Roster → Objects → ℕ → List ℕ
blackboard_listed table roster objects b =
    let blackboard = object_in blackboard_kind objects.blackboards b in
    if_created blackboard_kind blackboard
    (blackboard_row table b blackboard.message (waiters roster (queues.Blackboard b)))

-- the object of an event flag, if it is created
abbrev pub event_flag_listed : Table → Roster → Objects → ℕ → List ℕ
event_flag_listed table roster objects e =
    let event_flag = object_in event_flag_kind objects.event_flags e in
    if_created event_flag_kind event_flag
    (event_flag_row table e event_flag.up (waiters roster (queues.EventFlag e)))

-- the object of a mutex, if it is created
abbrev pub mutex_listed : Table → Roster → Objects → ℕ → List ℕ
mutex_listed table roster objects m =
    if_created mutex_kind (object_in mutex_kind objects.mutexes m)
    (mutex_row table m (owner roster m) (owned_depth roster m (owner roster m))
    (waiters roster (queues.Mutex m)))

-- the objects of these values and of a history of n entries: time, mode and number of entries, each
-- core, and then each created process and object, in the order of the table
abbrev pub listing_objects_of : Table → Roster → Objects → ℕ → List ℕ
listing_objects_of table roster objects entries =
    head_objects roster entries
    ++ texts_of (core_listed table roster) roster.cores
    ++ texts_of (process_listed table roster objects) (length table.processes)
    ++ texts_of (semaphore_listed table roster objects) (length table.semaphores)
    ++ texts_of (buffer_listed table roster objects) (length table.buffers)
    ++ texts_of (blackboard_listed table roster objects) (length table.blackboards)
    ++ texts_of (event_flag_listed table roster objects) (length table.event_flags)
    ++ texts_of (mutex_listed table roster objects) (length table.mutexes)

-- the listing of a machine as objects, its running values read off the whole history
unfoldable pub listing_objects : Table → Machine → List ℕ
listing_objects table machine =
    listing_objects_of table machine.roster (objects_after table machine.history)
    (length machine.history)
