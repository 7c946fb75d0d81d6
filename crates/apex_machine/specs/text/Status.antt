-- The lines of the status listing, each from its plain parts (this profile).
use Rattle.std.specs.Prelude.{ℕ, List, [], ◌∷◌, ◌++◌, flat_map, Option, None, Some, Bool, codes, decimal, if◌then◌else◌}
use Rattle.apex_machine.specs.Terms.{Holding, Message, Mode, Record, State, Suspender, Wait}
use Rattle.apex_types.specs.declared.modes.Mode.TheVariants.{Idle, ColdStart, Normal}
use Rattle.apex_types.specs.declared.modes.State.TheVariants.{Dormant, Ready, Running, Waiting}
use Rattle.apex_machine.specs.declared.records.Suspender.TheVariants.{Itself, Other}
use Rattle.apex_machine.specs.declared.records.Wait.TheVariants as waits
use Rattle.apex_machine.specs.processes.Held.{in_order}
use Rattle.apex_machine.specs.text.Texts.{id_text, message_text, process_name, semaphore_name, buffer_name, blackboard_name, event_flag_name, mutex_name}
use Rattle.apex_machine.specs.processes.Running.{current_priority}
use Rattle.apex_machine.specs.table.Table.{Table}

-- the text of a value, or `-` without one
abbrev pub optional_text : {A : Type 0} → (A → List ℕ) → Option A → List ℕ
optional_text text None = codes "-"
optional_text text (Some x) = text x

-- a value behind others in a list
abbrev pub behind_text : {A : Type 0} → (A → List ℕ) → A → List ℕ
behind_text text x = codes "," ++ text x

-- values with `,` between them, or `-` without one
abbrev pub list_text : {A : Type 0} → (A → List ℕ) → List A → List ℕ
list_text text [] = codes "-"
list_text text (x ∷ xs) = text x ++ flat_map (behind_text text) xs

-- the id of a process, or `-`
abbrev pub optional_id_text : Option ℕ → List ℕ
optional_id_text id = optional_text id_text id

-- an instant in ticks, or `-`
abbrev pub instant_text : Option ℕ → List ℕ
instant_text instant = optional_text decimal instant

-- the ids of processes
abbrev pub ids_text : List ℕ → List ℕ
ids_text ids = list_text id_text ids

-- a message, or `-`
abbrev pub optional_message_text : Table → Option Message → List ℕ
optional_message_text table message = optional_text (message_text table) message

-- messages
abbrev pub messages_text : Table → List Message → List ℕ
messages_text table messages = list_text (message_text table) messages

-- the partition's operating mode
abbrev pub operating_mode_text : Mode → List ℕ
operating_mode_text Idle = codes "IDLE"
operating_mode_text ColdStart = codes "COLD_START"
operating_mode_text Normal = codes "NORMAL"

-- the state of a process
abbrev pub state_text : State → List ℕ
state_text Dormant = codes "DORMANT"
state_text Ready = codes "READY"
state_text Running = codes "RUNNING"
state_text Waiting = codes "WAITING"

-- the wait of a process: a word, or a kind of object and an id
abbrev pub wait_text : Wait → List ℕ
wait_text (waits.Normal delay) = codes "normal"
wait_text waits.Start = codes "start"
wait_text waits.Time = codes "time"
wait_text waits.Period = codes "period"
wait_text (waits.Semaphore s) = codes "semaphore:" ++ id_text s
wait_text (waits.Receive b) = codes "buffer:" ++ id_text b
wait_text (waits.Send b message) = codes "buffer:" ++ id_text b
wait_text (waits.Blackboard b) = codes "blackboard:" ++ id_text b
wait_text (waits.EventFlag e) = codes "event:" ++ id_text e
wait_text (waits.Mutex m) = codes "mutex:" ++ id_text m

-- the wait of a process, or `-`
abbrev pub optional_wait_text : Option Wait → List ℕ
optional_wait_text wait = optional_text wait_text wait

-- the suspender of a process
abbrev pub suspender_text : Suspender → List ℕ
suspender_text Itself = codes "self"
suspender_text Other = codes "other"

-- the suspender of a process, or `-`
abbrev pub suspended_text : Option Suspender → List ℕ
suspended_text suspended = optional_text suspender_text suspended

-- a mutex that a process owns
abbrev pub held_text : Holding → List ℕ
held_text holding = id_text holding.mutex

-- the ids of the mutexes that a process owns, in order of their numbers
abbrev pub owns_text : List Holding → List ℕ
owns_text owned = list_text held_text (in_order owned)

-- whether an event flag is up
abbrev pub up_text : Bool → List ℕ
up_text up = if up then codes "UP" else codes "DOWN"

-- `time T`, in ticks
abbrev pub time_line : ℕ → List ℕ
time_line now = codes "time " ++ decimal now ++ codes "\n"

-- `mode M`
abbrev pub mode_line : Mode → List ℕ
mode_line mode = codes "mode " ++ operating_mode_text mode ++ codes "\n"

-- `history N`, the number of entries
abbrev pub history_line : ℕ → List ℕ
history_line entries = codes "history " ++ decimal entries ++ codes "\n"

-- `core C running P`
abbrev pub core_line : ℕ → Option ℕ → List ℕ
core_line core running =
    codes "core " ++ decimal core ++ codes " running " ++ optional_id_text running ++ codes "\n"

-- the head of the line of a process or an object: its kind, id and name
abbrev pub head_text : List ℕ → ℕ → List ℕ → List ℕ
head_text kind id name = kind ++ codes " " ++ id_text id ++ codes " name " ++ name

-- the end of the line of an object: its waiters, in the queue's order
abbrev pub waiting_text : List ℕ → List ℕ
waiting_text waiting = codes " waiting " ++ ids_text waiting ++ codes "\n"

-- the state, the priorities, the core and the wait of a process
abbrev pub state_part : State → Record → List ℕ
state_part state r =
    codes " state " ++ state_text state ++ codes " base " ++ decimal r.base
    ++ codes " current " ++ decimal (current_priority r) ++ codes " core " ++ decimal r.core
    ++ codes " wait " ++ optional_wait_text r.wait

-- the instants at which a process's wait ends, and its deadline passes
abbrev pub instants_part : Record → List ℕ
instants_part r =
    codes " due " ++ instant_text r.due ++ codes " deadline " ++ instant_text r.deadline

-- the suspender of a process, its mutexes, and the last message that it received
abbrev pub held_part : Table → Record → List ℕ
held_part table r =
    codes " suspended " ++ suspended_text r.suspended ++ codes " owns " ++ owns_text r.owned
    ++ codes " inbox " ++ optional_message_text table r.inbox

-- `process I name N state S base B current C core K wait W due D deadline D suspended S owns M
-- inbox X`
abbrev pub process_line : Table → ℕ → State → Record → List ℕ
process_line table p state r =
    head_text (codes "process") p (process_name table p) ++ state_part state r ++ instants_part r
    ++ held_part table r ++ codes "\n"

-- `semaphore I name N value V waiting Q`
abbrev pub semaphore_line : Table → ℕ → ℕ → List ℕ → List ℕ
semaphore_line table s value waiting =
    head_text (codes "semaphore") s (semaphore_name table s) ++ codes " value " ++ decimal value
    ++ waiting_text waiting

-- `buffer I name N messages M waiting Q`, the messages from the first on
abbrev pub buffer_line : Table → ℕ → List Message → List ℕ → List ℕ
buffer_line table b messages waiting =
    head_text (codes "buffer") b (buffer_name table b) ++ codes " messages "
    ++ messages_text table messages
    ++ waiting_text waiting

-- `blackboard I name N message X waiting Q`
abbrev pub blackboard_line : Table → ℕ → Option Message → List ℕ → List ℕ
blackboard_line table b message waiting =
    head_text (codes "blackboard") b (blackboard_name table b)
    ++ codes " message " ++ optional_message_text table message ++ waiting_text waiting

-- `event I name N state UP waiting Q`, or DOWN
abbrev pub event_flag_line : Table → ℕ → Bool → List ℕ → List ℕ
event_flag_line table e up waiting =
    head_text (codes "event") e (event_flag_name table e) ++ codes " state " ++ up_text up
    ++ waiting_text waiting

-- the owner of a mutex, and its depth
abbrev pub owner_text : Option ℕ → ℕ → List ℕ
owner_text owner depth =
    codes " owner " ++ optional_id_text owner ++ codes " depth " ++ decimal depth

-- `mutex I name N owner P depth D waiting Q`
abbrev pub mutex_line : Table → ℕ → Option ℕ → ℕ → List ℕ → List ℕ
mutex_line table m owner depth waiting =
    head_text (codes "mutex") m (mutex_name table m) ++ owner_text owner depth
    ++ waiting_text waiting
