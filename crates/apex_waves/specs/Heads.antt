-- The head of a dump.
use Rattle.std.specs.Prelude.{ℕ, List, ◌++◌, codes, flat_map}
use Rattle.apex_machine.specs.table.Table.{Table}
use Rattle.apex_waves.specs.Kinds.{of_kinds, scope_word, signals_in}
use Rattle.apex_waves.specs.Snapshots.{Snapshot}
use Rattle.apex_waves.specs.Names.{code_text, signal_name}
use Rattle.apex_waves.specs.Signals.{signals_of}
use Rattle.apex_waves.specs.Values.{value_in}
use Rattle.apex_waves.specs.declared.kinds.Kind.{Kind}
use Rattle.apex_waves.specs.declared.signals.Signal.{Signal}
use Rattle.apex_waves.specs.declared.signals.Signal.TheVariants.{Core, Process, Semaphore, Buffer, Blackboard, EventFlag, Mutex}

-- the beginning of the file: the program, and the length of a unit of time, of which a tick has 100,000, so that
-- a tick is a millisecond
unfoldable pub opening_text : List ℕ
opening_text = codes "$version apex $end\n$timescale 10 ns $end\n"

-- The type of a signal's variable, with its size: words are strings, which GTKWave knows beside the types of the
-- standard. Counts are real numbers, which it shows in decimal digits and as a curve.
abbrev pub type_word : Signal → List ℕ
type_word (Core core) = codes "string 1"
type_word (Process p) = codes "string 1"
type_word (Semaphore s) = codes "real 64"
type_word (Buffer b) = codes "real 64"
type_word (Blackboard b) = codes "real 64"
type_word (EventFlag e) = codes "real 64"
type_word (Mutex m) = codes "string 1"

-- the declaration of a signal: its type, its code and its name
abbrev pub declaration_text : Table → Signal → List ℕ
declaration_text table signal =
    codes "$var " ++ type_word signal ++ codes " " ++ code_text signal ++ codes " "
    ++ signal_name table signal ++ codes " $end\n"

-- the scope of a kind: the declarations of its signals
unfoldable pub scope_text : Table → Kind → List ℕ
scope_text table kind =
    codes "$scope module " ++ scope_word kind ++ codes " $end\n"
    ++ flat_map (declaration_text table) (signals_in table kind) ++ codes "$upscope $end\n"

-- the end of the declarations, and the beginning of the first values
unfoldable pub first_text : List ℕ
first_text = codes "$enddefinitions $end\n#0\n$dumpvars\n"

-- what comes before the first entry: the declarations, and the values of all signals at time 0
abbrev pub head_text : Table → Snapshot → List ℕ
head_text table first =
    opening_text ++ of_kinds (scope_text table)
    ++ first_text ++ flat_map (value_in table first) (signals_of table) ++ codes "$end\n"
