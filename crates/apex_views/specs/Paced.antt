-- The run of a pace.
use Rattle.std.specs.Prelude.{ℕ, ◌+◌, List, Result, Ok, Err}
use Rattle.apex_machine.specs.Machine.{opening, run}
use Rattle.apex_machine.specs.table.Table as tables
use Rattle.apex_table.specs.Reading.{table_of}
use Rattle.apex_words.specs.declared.TableFault.{TableFault}
use Rattle.apex_types.specs.declared.entries.Event.{Event}
use Rattle.apex_pace.specs.First.{first_schedule, rounds}
use Rattle.apex_pace.specs.Pace.{paced_opening}
use Rattle.apex_pace.specs.declared.paces.Pace.{Pace}
use Rattle.apex_console.specs.Reports.{Answer, fault_of_events, refuses, runs_to}
use Rattle.apex_console.specs.declared.CliFault.TheVariants.{Table}

-- the first schedule of a pace up to a time, with one round more than the history has room for
-- entries if it has not ended before; each round has an event, so the history is full exactly if
-- these are more than its limit
abbrev pub rounds_until : Pace → ℕ → tables.Table → List Event
rounds_until pace until table = rounds pace table until (table.limit + 1) (paced_opening table)

-- the answer to a pace and a time, by the result of reading the bytes
abbrev pub paced_answer_to : Pace → ℕ → Result tables.Table TableFault → Answer
paced_answer_to pace until (Err fault) = refuses (Table fault)
paced_answer_to pace until (Ok table) =
    runs_to table (run table (opening table) (first_schedule pace table until))
    (fault_of_events table (rounds_until pace until table))

-- the answer to a pace, a time and the bytes of a table, memory aside
abbrev pub paced_answer : Pace → ℕ → List ℕ → Answer
paced_answer pace until bytes = paced_answer_to pace until (table_of bytes)
