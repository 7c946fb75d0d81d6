-- The lines of a history: the events that they name, and the lines of the machine's run for these.
use Rattle.std.specs.Prelude.{◌≡◌, ℕ, ◌≤◌, Bool, true, nat_lt, if◌then◌else◌, List, [], ◌∷◌, ◌++◌, length, map, Result, Ok, Err}
use Rattle.std.specs.List.{AllByRecursion}
use Rattle.apex_check.specs.Terms.{Entry, Event}
use Rattle.apex_types.specs.declared.entries.Event.TheVariants.{Turn, Tick}
use Rattle.apex_machine.specs.table.Table.{Table}
use Rattle.apex_machine.specs.Machine.{run, opening}
use Rattle.apex_calls.specs.Lines.{lines_of}
use Rattle.apex_history.specs.ReadLines.{line_result}
use Rattle.apex_history.specs.declared.LineFault.{LineFault}
use Rattle.apex_history.specs.declared.LineFault.TheVariants.{BadLine}
use Rattle.apex_incoming.specs.Lines.{IsOneLine, text_of}

-- the event is a tick, or a turn of a core below this number
abbrev pub is_of_cores : ℕ → Event → Bool
is_of_cores cores (Turn core) = nat_lt core cores
is_of_cores cores (Tick n) = true

-- a line that names a core which the table lacks is bad
abbrev pub of_cores : ℕ → Result Event LineFault → Result Event LineFault
of_cores cores (Ok event) = if is_of_cores cores event then Ok event else Err BadLine
of_cores cores (Err fault) = Err fault

-- the event that a line names, for a partition with this number of cores
abbrev pub event_named : ℕ → List ℕ → Result Event LineFault
event_named cores line = of_cores cores (line_result line)

-- the history of these events
abbrev pub history_of : Table → List Event → List Entry
history_of table events = (run table (opening table) events).history

-- The bytes are lines that name these events, as many as the history may have, and they are the
-- lines of *run* for these events.
pub record AreLines (table : Table) (bytes : List ℕ) (events : List Event) : Type 0 where
  pub lines : List (List ℕ)
  pub whole : bytes ≡ text_of lines
  pub apart : AllByRecursion IsOneLine lines
  pub named : map (event_named table.cores) lines ≡ map Ok events
  pub fits : length events ≤ table.limit
  pub same : bytes ≡ lines_of table (history_of table events)

-- the text begins with the lines of *run* for these events, and these bytes follow
abbrev pub Follows : Table → List ℕ → List Event → List ℕ → Type 0
Follows table text events behind =
    (bytes : List ℕ) × (text ≡ bytes ++ behind) × AreLines table bytes events

-- this entry is the machine's for one event more
abbrev pub IsNext : Table → List Event → Event → Entry → Type 0
IsNext table events event entry =
    history_of table (events ++ event ∷ []) ≡ history_of table events ++ entry ∷ []
