-- The texts of ids, of names and of messages (this profile).
use Rattle.std.specs.Prelude.{ℕ, ◌+◌, ◌/◌, ◌%◌, false, List, [], ◌∷◌, flat_map, codes, decimal}
use Rattle.std.specs.Fmt.{digit_glyph}
use Rattle.apex_machine.specs.Terms.{Message, Queue}
use Rattle.apex_machine.specs.declared.records.Queue.TheVariants as queues
use Rattle.apex_machine.specs.table.Table.{Table, process_config, semaphore_config, buffer_config, blackboard_config, event_flag_config, mutex_config, message_bytes}

-- the id of a process as users see it: its place in the table, counted from 1
abbrev pub id_text : ℕ → List ℕ
id_text place = decimal (place + 1)

-- the name that the table gives a process
abbrev pub process_name : Table → ℕ → List ℕ
process_name table p = (process_config table p).name

-- the name that the table gives a semaphore
abbrev pub semaphore_name : Table → ℕ → List ℕ
semaphore_name table s = (semaphore_config table s).name

-- the name that the table gives a buffer
abbrev pub buffer_name : Table → ℕ → List ℕ
buffer_name table b = (buffer_config table b).name

-- the name that the table gives a blackboard
abbrev pub blackboard_name : Table → ℕ → List ℕ
blackboard_name table b = (blackboard_config table b).name

-- the name that the table gives an event flag
abbrev pub event_flag_name : Table → ℕ → List ℕ
event_flag_name table e = (event_flag_config table e).name

-- the name that the table gives a mutex
abbrev pub mutex_name : Table → ℕ → List ℕ
mutex_name table m = (mutex_config table m).name

-- the name that the table gives the object that has this queue
abbrev pub object_name : Table → Queue → List ℕ
object_name table queues.Normal = []
object_name table (queues.Semaphore s) = semaphore_name table s
object_name table (queues.Buffer b) = buffer_name table b
object_name table (queues.Blackboard b) = blackboard_name table b
object_name table (queues.EventFlag e) = event_flag_name table e
object_name table (queues.Mutex m) = mutex_name table m

-- a byte as two digits, 0 to 9 and a to f
abbrev pub byte_text : ℕ → List ℕ
byte_text byte = digit_glyph false (byte / 16) ∷ digit_glyph false (byte % 16) ∷ []

-- the bytes of a message; the empty one has a mark of its own
abbrev pub bytes_text : List ℕ → List ℕ
bytes_text [] = codes "-"
bytes_text (byte ∷ bytes) = flat_map byte_text (byte ∷ bytes)

-- a message
abbrev pub message_text : Table → Message → List ℕ
message_text table message = bytes_text (message_bytes table message)
