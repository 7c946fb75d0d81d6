-- The text of a call: the word of its service, and a word for each shape of the service's row.
use Rattle.std.specs.Prelude.{ℕ, ◌<◌, List, ◌∷◌, length, map, codes, decimal}
use Rattle.std.specs.List.{join_with_byte}
use Rattle.apex_types.specs.declared.calls.Named.TheVariants.{Known, Unknown}
use Rattle.apex_types.specs.declared.calls.RequestedMode.TheVariants.{Idle, Normal}
use Rattle.apex_types.specs.declared.calls.Timeout.TheVariants.{Poll, Ticks, Infinite}
use Rattle.apex_machine.specs.table.Table.{Table, IsKnownName, literal_text}
use Rattle.apex_machine.specs.text.Texts.{process_name, semaphore_name, buffer_name, blackboard_name, event_flag_name, mutex_name, bytes_text}
use Rattle.apex_calls.specs.Terms.{Arguments, Call, Kind, Named as NameOf, Origin, RequestedMode, Shape, Timeout as TimeoutOf}
use Rattle.apex_calls.specs.declared.catalogue.Kind.TheVariants.{Process, Semaphore, Buffer, Blackboard, EventFlag, Mutex}
use Rattle.apex_calls.specs.declared.catalogue.Shape.TheVariants.{Entry, Named, Number, Timeout, Message, Mode}
use Rattle.apex_calls.specs.Catalogue.{Row, row_of}
use Rattle.apex_calls.specs.Parts.{parts_of}

-- the time that a call may wait
abbrev pub timeout_text : TimeoutOf → List ℕ
timeout_text Poll = codes "0"
timeout_text (Ticks n) = decimal n
timeout_text Infinite = codes "infinite"

-- the mode that is asked for
abbrev pub mode_text : RequestedMode → List ℕ
mode_text Idle = codes "IDLE"
mode_text Normal = codes "NORMAL"

-- the name that a step gives; names are those that the table gives, literals those of its steps
abbrev pub named_text : (ℕ → List ℕ) → (Origin → List ℕ) → NameOf ℕ → List ℕ
named_text names literals (Known i) = names i
named_text names literals (Unknown origin) = literals origin

-- the text of an argument: the word of its shape
abbrev pub word_text : (Kind → ℕ → List ℕ) → (Origin → List ℕ) → Arguments → Shape → List ℕ
word_text names literals a (Entry kind) = names kind a.entry
word_text names literals a (Named kind) = named_text (names kind) literals a.named
word_text names literals a (Number low high) = decimal a.number
word_text names literals a Timeout = timeout_text a.timeout
word_text names literals a Message = bytes_text (literals a.message.origin)
word_text names literals a Mode = mode_text a.mode

-- the words of a row's service with these arguments
abbrev pub row_words : (Kind → ℕ → List ℕ) → (Origin → List ℕ) → Row → Arguments → List (List ℕ)
row_words names literals row a = row.word ∷ map (word_text names literals a) row.shapes

-- the words of a call
abbrev pub call_words : (Kind → ℕ → List ℕ) → (Origin → List ℕ) → Call → List (List ℕ)
call_words names literals call =
    row_words names literals (row_of (parts_of call).0) (parts_of call).1

-- the words with a space between each two
abbrev pub spaced : List (List ℕ) → List ℕ
spaced ws = join_with_byte 32 ws

-- the name that the table gives a thing
abbrev pub name_of : Table → Kind → ℕ → List ℕ
name_of table Process p = process_name table p
name_of table Semaphore s = semaphore_name table s
name_of table Buffer b = buffer_name table b
name_of table Blackboard b = blackboard_name table b
name_of table EventFlag e = event_flag_name table e
name_of table Mutex m = mutex_name table m

-- a step as the table writes it
abbrev pub call_text : Table → Call → List ℕ
call_text table call = spaced (call_words (name_of table) (literal_text table) call)

-- the number of things of the kind that the table has
abbrev pub count_of : Table → Kind → ℕ
count_of table Process = length table.processes
count_of table Semaphore = length table.semaphores
count_of table Buffer = length table.buffers
count_of table Blackboard = length table.blackboards
count_of table EventFlag = length table.event_flags
count_of table Mutex = length table.mutexes

-- the entry of the argument is the table's
abbrev pub IsKnownWord : Table → Arguments → Shape → Type 0
IsKnownWord table a (Entry kind) = a.entry < count_of table kind
IsKnownWord table a (Named kind) = IsKnownName (count_of table kind) a.named
IsKnownWord table a _ = Unit {0}
