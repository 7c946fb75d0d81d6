-- The objects of the status listing, each from its plain parts (this profile): a line for each row.
use Rattle.std.specs.Prelude.{ℕ, List, ◌++◌, Bool, Option, None, Some, codes, decimal}
use Rattle.apex_objects.specs.Terms.{Message, Mode, Record, State, Suspender, Wait}
use Rattle.apex_machine.specs.declared.records.Queue.TheVariants as queues
use Rattle.apex_machine.specs.declared.records.Suspender.TheVariants.{Itself, Other}
use Rattle.apex_machine.specs.declared.records.Wait.TheVariants as waits
use Rattle.apex_machine.specs.processes.Held.{in_order}
use Rattle.apex_machine.specs.processes.Running.{current_priority}
use Rattle.apex_machine.specs.table.Table.{Table}
use Rattle.apex_machine.specs.text.Status.{operating_mode_text, state_text, up_text}
use Rattle.apex_machine.specs.text.Texts.{process_name, semaphore_name, buffer_name, blackboard_name, event_flag_name, mutex_name}
use Rattle.apex_objects.specs.Parts.{array_text, holding_object, message_string, or_null, process_object, process_part, thing_part}

-- `{"time":T}`, in ticks
abbrev pub time_object : ℕ → List ℕ
time_object now = codes "{\"time\":" ++ decimal now ++ codes "}\n"

-- `{"mode":"M"}`
abbrev pub mode_object : Mode → List ℕ
mode_object mode = codes "{\"mode\":\"" ++ operating_mode_text mode ++ codes "\"}\n"

-- `{"history":N}`, the number of entries
abbrev pub history_object : ℕ → List ℕ
history_object entries = codes "{\"history\":" ++ decimal entries ++ codes "}\n"

-- `{"core":C,"running":P,"name":"N"}`
abbrev pub core_object : Table → ℕ → Option ℕ → List ℕ
core_object table core running =
    codes "{\"core\":" ++ decimal core
    ++ process_part table (codes ",\"running\":") (codes ",\"name\":") running
    ++ codes "}\n"

-- the state, the priorities and the core of a process
unfoldable pub state_part : State → Record → List ℕ
state_part state r =
    codes ",\"state\":\"" ++ state_text state ++ codes "\",\"base\":" ++ decimal r.base
    ++ codes ",\"current\":" ++ decimal (current_priority r) ++ codes ",\"core\":" ++ decimal r.core

-- a wait for no object: its word between quotes, or `null`
unfoldable pub plain_wait : List ℕ → List ℕ
plain_wait word = codes ",\"wait\":" ++ word ++ codes ",\"object\":null,\"of\":null"

-- a wait for an object of this kind
unfoldable pub object_wait : List ℕ → ℕ → List ℕ → List ℕ
object_wait kind i name =
    codes ",\"wait\":\"" ++ kind ++ thing_part (codes "\",\"object\":") i (codes ",\"of\":") name

-- the wait of a process: a word, or a kind of object with its id and its name
abbrev pub wait_part : Table → Wait → List ℕ
wait_part table (waits.Normal delay) = plain_wait (codes "\"normal\"")
wait_part table waits.Start = plain_wait (codes "\"start\"")
wait_part table waits.Time = plain_wait (codes "\"time\"")
wait_part table waits.Period = plain_wait (codes "\"period\"")
wait_part table (waits.Semaphore s) = object_wait (codes "semaphore") s (semaphore_name table s)
wait_part table (waits.Receive b) = object_wait (codes "buffer") b (buffer_name table b)
wait_part table (waits.Send b message) = object_wait (codes "buffer") b (buffer_name table b)
wait_part table (waits.Blackboard b) = object_wait (codes "blackboard") b (blackboard_name table b)
wait_part table (waits.EventFlag e) = object_wait (codes "event") e (event_flag_name table e)
wait_part table (waits.Mutex m) = object_wait (codes "mutex") m (mutex_name table m)

-- the wait of a process, or `null`
abbrev pub optional_wait_part : Table → Option Wait → List ℕ
optional_wait_part table None = plain_wait (codes "null")
optional_wait_part table (Some wait) = wait_part table wait

-- the instants at which a process's wait ends, and its deadline passes
unfoldable pub instants_part : Record → List ℕ
instants_part r =
    codes ",\"due\":" ++ or_null decimal r.due ++ codes ",\"deadline\":" ++ or_null decimal r.deadline

-- the suspender of a process
abbrev pub suspender_string : Suspender → List ℕ
suspender_string Itself = codes "\"self\""
suspender_string Other = codes "\"other\""

-- the suspender of a process, its mutexes in order, and the last message that it received
unfoldable pub held_part : Table → Record → List ℕ
held_part table r =
    codes ",\"suspended\":" ++ or_null suspender_string r.suspended
    ++ codes ",\"owns\":" ++ array_text (holding_object table) (in_order r.owned)
    ++ codes ",\"inbox\":" ++ or_null (message_string table) r.inbox

-- the row of a process
abbrev pub process_row : Table → ℕ → State → Record → List ℕ
process_row table p state r =
    thing_part (codes "{\"process\":") p (codes ",\"name\":") (process_name table p)
    ++ state_part state r ++ optional_wait_part table r.wait ++ instants_part r ++ held_part table r
    ++ codes "}\n"

-- the end of the row of an object: its waiters, in the queue's order
unfoldable pub waiting_part : Table → List ℕ → List ℕ
waiting_part table waiting =
    codes ",\"waiting\":" ++ array_text (process_object table) waiting ++ codes "}\n"

-- the row of a semaphore: its value, and its waiters
abbrev pub semaphore_row : Table → ℕ → ℕ → List ℕ → List ℕ
semaphore_row table s value waiting =
    thing_part (codes "{\"semaphore\":") s (codes ",\"name\":") (semaphore_name table s)
    ++ codes ",\"value\":" ++ decimal value ++ waiting_part table waiting

-- the row of a buffer: its messages, from the first on, and its waiters
abbrev pub buffer_row : Table → ℕ → List Message → List ℕ → List ℕ
buffer_row table b messages waiting =
    thing_part (codes "{\"buffer\":") b (codes ",\"name\":") (buffer_name table b)
    ++ codes ",\"messages\":" ++ array_text (message_string table) messages
    ++ waiting_part table waiting

-- the row of a blackboard: its message, and its waiters
abbrev pub blackboard_row : Table → ℕ → Option Message → List ℕ → List ℕ
blackboard_row table b message waiting =
    thing_part (codes "{\"blackboard\":") b (codes ",\"name\":") (blackboard_name table b)
    ++ codes ",\"message\":" ++ or_null (message_string table) message
    ++ waiting_part table waiting

-- the row of an event flag: whether it is up, and its waiters
abbrev pub event_flag_row : Table → ℕ → Bool → List ℕ → List ℕ
event_flag_row table e up waiting =
    thing_part (codes "{\"event\":") e (codes ",\"name\":") (event_flag_name table e)
    ++ codes ",\"state\":\"" ++ up_text up ++ codes "\"" ++ waiting_part table waiting

-- the row of a mutex: its owner, its depth, and its waiters
abbrev pub mutex_row : Table → ℕ → Option ℕ → ℕ → List ℕ → List ℕ
mutex_row table m owner depth waiting =
    thing_part (codes "{\"mutex\":") m (codes ",\"name\":") (mutex_name table m)
    ++ process_part table (codes ",\"owner\":") (codes ",\"of\":") owner
    ++ codes ",\"depth\":" ++ decimal depth ++ waiting_part table waiting
