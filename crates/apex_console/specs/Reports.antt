-- The answer to the items of a schedule and the bytes of a table, and the report of a machine.
use Rattle.std.specs.Prelude.{◌≡◌, ◌⊎◌, ℕ, List, Option, Some, None, Result, Ok, Err, length, nat_le, if◌then◌else◌}
use Rattle.apex_types.specs.declared.entries.Event.{Event}
use Rattle.apex_machine.specs.table.Table as tables
use Rattle.apex_machine.specs.text.Listing.{listing}
use Rattle.apex_machine.specs.Machine.{Machine, run, opening}
use Rattle.apex_calls.specs.Lines.{lines_of}
use Rattle.apex_words.specs.declared.TableFault.{TableFault}
use Rattle.apex_table.specs.Reading.{table_of}
use Rattle.apex_schedules.specs.declared.Item.{Item}
use Rattle.apex_console.specs.declared.faults.CliFault.{CliFault}
use Rattle.apex_console.specs.declared.faults.CliFault.TheVariants.{Usage, Table, HistoryFull, Memory}
use Rattle.apex_console.specs.declared.reports.Report.{Report}
use Rattle.apex_console.specs.declared.reports.Report.TheVariants.{History, Status}
use Rattle.apex_schedules.specs.Schedule.{are_cores_below, events_of_items}

-- an answer: a refusal, or the machine of a run, with the fault that is reported besides
pub data Answer : Type 0 where
  refuses : CliFault → Answer
  runs_to : tables.Table → Machine → Option CliFault → Answer

-- the report of a machine: the lines of its history, or the listing of its state
abbrev pub report_text : Report → tables.Table → Machine → List ℕ
report_text History table machine = lines_of table machine.history
report_text Status table machine = listing table machine

-- the history is full if there are more events than its limit
abbrev pub fault_of_events : tables.Table → List Event → Option CliFault
fault_of_events table events =
    if nat_le (length events) table.limit then None else Some (HistoryFull table.limit)

-- the answer to the items, by the result of reading the bytes
abbrev pub answer_to : List Item → Result tables.Table TableFault → Answer
answer_to items (Err fault) = refuses (Table fault)
answer_to items (Ok table) =
    if are_cores_below table.cores items then
    runs_to table (run table (opening table) (events_of_items items))
    (fault_of_events table (events_of_items items))
    else refuses Usage

-- the answer to the items and the bytes of a table, memory aside
abbrev pub answer_of : List Item → List ℕ → Answer
answer_of items bytes = answer_to items (table_of bytes)

-- memory was refused, or the answer is a refusal with this fault
abbrev pub Refuses : CliFault → Answer → Type 0
Refuses fault answer = (fault ≡ Memory) ⊎ (answer ≡ refuses fault)
