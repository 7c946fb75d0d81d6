-- The kinds of signals: how many of each kind a table has, and the names of their scopes.
use Rattle.std.specs.Prelude.{ℕ, List, ◌++◌, codes, length}
use Rattle.apex_machine.specs.table.Table.{Table}
use Rattle.apex_moments.specs.Places.{of_places}
use Rattle.apex_waves.specs.declared.kinds.Kind.{Kind}
use Rattle.apex_waves.specs.declared.kinds.Kind.TheVariants.{Core, Process, Semaphore, Buffer, Blackboard, EventFlag, Mutex}
use Rattle.apex_waves.specs.declared.signals.Signal.{Signal}
use Rattle.apex_waves.specs.declared.signals.Signal.TheVariants as signals

-- the number of signals of a kind: one for each core, each process and each object of the table
abbrev pub count_of : Table → Kind → ℕ
count_of table Core = table.cores
count_of table Process = length table.processes
count_of table Semaphore = length table.semaphores
count_of table Buffer = length table.buffers
count_of table Blackboard = length table.blackboards
count_of table EventFlag = length table.event_flags
count_of table Mutex = length table.mutexes

-- the signal of a kind at a place
abbrev pub signal_at : Kind → ℕ → Signal
signal_at Core core = signals.Core core
signal_at Process p = signals.Process p
signal_at Semaphore s = signals.Semaphore s
signal_at Buffer b = signals.Buffer b
signal_at Blackboard b = signals.Blackboard b
signal_at EventFlag e = signals.EventFlag e
signal_at Mutex m = signals.Mutex m

-- the signals of a kind, in the order of their places
abbrev pub signals_in : Table → Kind → List Signal
signals_in table kind = of_places (signal_at kind) (count_of table kind)

-- the name of a kind's scope
abbrev pub scope_word : Kind → List ℕ
scope_word Core = codes "cores"
scope_word Process = codes "processes"
scope_word Semaphore = codes "semaphores"
scope_word Buffer = codes "buffers"
scope_word Blackboard = codes "blackboards"
scope_word EventFlag = codes "events"
scope_word Mutex = codes "mutexes"

-- what all kinds give, one behind the other, in the order of a file
abbrev pub of_kinds : {A : Type 0} → (Kind → List A) → List A
of_kinds f =
    f Core ++ f Process ++ f Semaphore ++ f Buffer ++ f Blackboard ++ f EventFlag ++ f Mutex
