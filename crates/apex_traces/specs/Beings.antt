-- What the slices of processes show in a trace: the state, and what a waiting process waits for.
use Rattle.std.specs.Prelude.{ℕ, Bool, true, false, List, [], ◌++◌, ◌==◌, Option, None, Some, codes}
use Rattle.apex_json.specs.Strings.{json_text}
use Rattle.apex_machine.specs.declared.records.Wait.TheVariants as waits
use Rattle.apex_machine.specs.table.Table.{Table}
use Rattle.apex_machine.specs.text.Status.{state_text}
use Rattle.apex_machine.specs.text.Texts.{semaphore_name, buffer_name, blackboard_name, event_flag_name, mutex_name}
use Rattle.apex_moments.specs.Terms.{State, Wait}
use Rattle.apex_moments.specs.declared.moments.Cell.{Cell}
use Rattle.apex_traces.specs.declared.beings.Being.{Being}
use Rattle.apex_traces.specs.declared.beings.Being.TheVariants.{Dormant, Ready, Running, Waiting, Normal, Start, Time, Period, Semaphore, Buffer, Blackboard, EventFlag, Mutex}
use Rattle.apex_types.specs.declared.modes.State.TheVariants as states

-- what the slice of a waiting process shows, by its wait; one that is only suspended has none
abbrev pub awaiting : Option Wait → Being
awaiting None = Waiting
awaiting (Some (waits.Normal delay)) = Normal
awaiting (Some waits.Start) = Start
awaiting (Some waits.Time) = Time
awaiting (Some waits.Period) = Period
awaiting (Some (waits.Semaphore s)) = Semaphore s
awaiting (Some (waits.Receive b)) = Buffer b
awaiting (Some (waits.Send b message)) = Buffer b
awaiting (Some (waits.Blackboard b)) = Blackboard b
awaiting (Some (waits.EventFlag e)) = EventFlag e
awaiting (Some (waits.Mutex m)) = Mutex m

-- what the slice of a process in this state and with this wait shows
abbrev pub being_of : State → Option Wait → Being
being_of states.Dormant wait = Dormant
being_of states.Ready wait = Ready
being_of states.Running wait = Running
being_of states.Waiting wait = awaiting wait

-- what the slice of the process of a cell shows
abbrev pub being_in : Cell → Being
being_in cell = being_of cell.state cell.wait

-- there is a slice: the process is not dormant
abbrev pub is_begun : Being → Bool
is_begun Dormant = false
is_begun being = true

-- two slices show the same
abbrev pub same_being : Being → Being → Bool
same_being Dormant Dormant = true
same_being Ready Ready = true
same_being Running Running = true
same_being Waiting Waiting = true
same_being Normal Normal = true
same_being Start Start = true
same_being Time Time = true
same_being Period Period = true
same_being (Semaphore s) (Semaphore t) = s == t
same_being (Buffer b) (Buffer c) = b == c
same_being (Blackboard b) (Blackboard c) = b == c
same_being (EventFlag e) (EventFlag f) = e == f
same_being (Mutex m) (Mutex n) = m == n
same_being being other = false

-- these words, and the name of an object behind them
abbrev pub named_text : List ℕ → List ℕ → List ℕ
named_text front name = front ++ json_text name

-- the name of the slice of a process that waits for an object
abbrev pub object_wait : Table → Being → List ℕ
object_wait table (Semaphore s) = named_text (codes "WAITING for semaphore ") (semaphore_name table s)
object_wait table (Buffer b) = named_text (codes "WAITING for buffer ") (buffer_name table b)
object_wait table (Blackboard b) = named_text (codes "WAITING for blackboard ") (blackboard_name table b)
object_wait table (EventFlag e) = named_text (codes "WAITING for event ") (event_flag_name table e)
object_wait table (Mutex m) = named_text (codes "WAITING for mutex ") (mutex_name table m)
object_wait table being = []

-- the name of a slice: the state, and the word or the object for which a waiting process waits
abbrev pub being_name : Table → Being → List ℕ
being_name table Ready = state_text states.Ready
being_name table Running = state_text states.Running
being_name table Waiting = state_text states.Waiting
being_name table Normal = codes "WAITING for normal"
being_name table Start = codes "WAITING for start"
being_name table Time = codes "WAITING for time"
being_name table Period = codes "WAITING for period"
being_name table being = object_wait table being
