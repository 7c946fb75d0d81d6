-- The texts of answers.
use Rattle.std.specs.Prelude.{ℕ, List, [], ◌++◌, codes, decimal, length, Option, None, Some}
use Rattle.apex_calls.specs.Lines.{line_of}
use Rattle.apex_machine.specs.table.Table.{Table}
use Rattle.apex_schedules.specs.Printing.{schedule_text}
use Rattle.apex_types.specs.declared.entries.Entry.{Entry}
use Rattle.apex_types.specs.declared.entries.Event.{Event}

-- the line of an entry, if there is one
abbrev pub line_in : Table → Option Entry → List ℕ
line_in table None = []
line_in table (Some entry) = line_of table entry

-- the number of the events of a schedule that was found
abbrev pub found_head : List Event → List ℕ
found_head events = codes "found at " ++ decimal (length events) ++ codes "\n"

-- a schedule without its line's first word, and the line of an entry
abbrev pub made_text : List Event → List ℕ → List ℕ
made_text events line = schedule_text events ++ (codes "\nentry: " ++ line)

-- a schedule, and the line of an entry
abbrev pub run_text : List Event → List ℕ → List ℕ
run_text events line = codes "schedule: " ++ made_text events line

-- a schedule that was found, and the line of an entry
abbrev pub found_text : List Event → List ℕ → List ℕ
found_text events line = found_head events ++ run_text events line

-- the line of a number of states
abbrev pub states_text : ℕ → List ℕ
states_text states = codes "states: " ++ decimal states ++ codes "\n"

-- no schedule leads to the fact
abbrev pub never_text : ℕ → List ℕ
never_text states = codes "never\n" ++ states_text states

-- no schedule of at most this many events does
abbrev pub within_text : ℕ → List ℕ
within_text depth = codes "none within " ++ decimal depth ++ codes "\n"
