-- The names and the codes of signals.
use Rattle.std.specs.Prelude.{ℕ, Bool, List, [], ◌∷◌, ◌++◌, ◌==◌, ◌||◌, codes, decimal, flat_map, if◌then◌else◌}
use Rattle.std.specs.Char.{is_ascii_alphanumeric}
use Rattle.apex_machine.specs.table.Table.{Table}
use Rattle.apex_machine.specs.text.Texts.{byte_text, id_text, process_name, semaphore_name, buffer_name, blackboard_name, event_flag_name, mutex_name}
use Rattle.apex_waves.specs.declared.signals.Signal.{Signal}
use Rattle.apex_waves.specs.declared.signals.Signal.TheVariants.{Core, Process, Semaphore, Buffer, Blackboard, EventFlag, Mutex}

-- a byte that stands in a name of a dump as it is: a letter, a digit, `-` (45) or `_` (95)
abbrev pub is_plain : ℕ → Bool
is_plain byte = is_ascii_alphanumeric byte || byte == 45 || byte == 95

-- a byte of a name: another one is `%` and its two hexadecimal digits
abbrev pub name_byte : ℕ → List ℕ
name_byte byte = if is_plain byte then byte ∷ [] else codes "%" ++ byte_text byte

-- A name of the table in a dump. It has no blank, none of the signs that have a meaning there, and no two
-- names have the same.
abbrev pub dump_name : List ℕ → List ℕ
dump_name name = flat_map name_byte name

-- the letter with which the code of a signal begins
abbrev pub letter : Signal → List ℕ
letter (Core core) = codes "c"
letter (Process p) = codes "p"
letter (Semaphore s) = codes "s"
letter (Buffer b) = codes "b"
letter (Blackboard b) = codes "k"
letter (EventFlag e) = codes "e"
letter (Mutex m) = codes "m"

-- the number of a signal as users see it: cores from 0 on, ids from 1 on
abbrev pub number_text : Signal → List ℕ
number_text (Core core) = decimal core
number_text (Process p) = id_text p
number_text (Semaphore s) = id_text s
number_text (Buffer b) = id_text b
number_text (Blackboard b) = id_text b
number_text (EventFlag e) = id_text e
number_text (Mutex m) = id_text m

-- the identifier code of a signal: a letter, and its number
abbrev pub code_text : Signal → List ℕ
code_text signal = letter signal ++ number_text signal

-- the name of a signal in its scope: `core` and its number, or the name of the table
abbrev pub signal_name : Table → Signal → List ℕ
signal_name table (Core core) = codes "core" ++ decimal core
signal_name table (Process p) = dump_name (process_name table p)
signal_name table (Semaphore s) = dump_name (semaphore_name table s)
signal_name table (Buffer b) = dump_name (buffer_name table b)
signal_name table (Blackboard b) = dump_name (blackboard_name table b)
signal_name table (EventFlag e) = dump_name (event_flag_name table e)
signal_name table (Mutex m) = dump_name (mutex_name table m)
