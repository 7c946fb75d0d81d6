-- The ends of the program.
use Rattle.std.specs.Prelude.{◌≡◌, ℕ, Bool, List, Option, None, Some, Result}
use Rattle.std.specs.Io.KnownBytes.{Appends, Keeps}
use Rattle.apex_machine.specs.Machine.{Machine}
use Rattle.apex_machine.specs.table.Table as tables
use Rattle.apex_check.specs.Checks.{Checks}
use Rattle.apex_check.specs.Legal.{SaysLegal}
use Rattle.apex_check.specs.declared.CheckFault.{CheckFault}
use Rattle.apex_check.specs.declared.Verdict.{Verdict}
use Rattle.apex_history.specs.Counted.{AppendsBeginning}
use Rattle.apex_history.specs.Ports.{Ports, NoneFails, AReadFails, AWriteFails, IsLeft}
use Rattle.apex_schedules.specs.declared.Item.{Item}
use Rattle.apex_console.specs.declared.CliFault.{CliFault}
use Rattle.apex_console.specs.declared.CliFault.TheVariants.{Usage, Memory, Read, Write}
use Rattle.apex_console.specs.declared.Report.{Report}
use Rattle.apex_console.specs.Faults.{status_of_fault}
use Rattle.apex_console.specs.Reports.{answer_of, refuses, report_text, runs_to}
use Rattle.apex_cli.specs.Requests.{Asked, a_check, a_report, a_run}
use Rattle.apex_cli.specs.Runs.{Runs}
use Rattle.apex_cli.specs.Statuses.{fault_of_check, status_of, status_of_check}

-- The ways in which a report of a run ends: by the items, the reader and the writer before, the
-- fault, and the reader and the writer afterwards.
pub data Reports (report : Report) (items : List Item) (before : Ports) : Option CliFault → Ports
    → Type 0 where
  -- memory was refused: nothing was written
  no_room : {after : Ports} → Keeps before.held after.held → NoneFails before after
      → Reports report items before (Some Memory) after
  -- a read failed: nothing was written
  unread : {after : Ports} → Keeps before.held after.held → AReadFails before after
      → Reports report items before (Some Read) after
  -- the bytes are refused: nothing was written
  refused : (bytes : List ℕ) → {fault : CliFault} {after : Ports} → IsLeft bytes before
      → answer_of items bytes ≡ refuses fault → Keeps before.held after.held
      → NoneFails before after → Reports report items before (Some fault) after
  -- the whole report was written
  written : (bytes : List ℕ) (table : tables.Table) (machine : Machine)
      → {fault : Option CliFault} {after : Ports} → IsLeft bytes before
      → answer_of items bytes ≡ runs_to table machine fault
      → Appends before.held after.held (report_text report table machine)
      → NoneFails before after → Reports report items before fault after
  -- a write failed: a prefix of the report was written
  unwritten : (bytes : List ℕ) (table : tables.Table) (machine : Machine)
      → {fault : Option CliFault} {after : Ports} → IsLeft bytes before
      → answer_of items bytes ≡ runs_to table machine fault
      → AppendsBeginning before.held after.held (report_text report table machine)
      → AWriteFails before after → Reports report items before (Some Write) after

-- The ways in which the program ends: by its task, the reader and the writer before, the exit
-- status, the fault, and the reader and the writer afterwards.
pub data Ends (asked : Option Asked) (before : Ports) : ℕ → Option CliFault → Ports → Type 0 where
  -- memory was refused: nothing was written
  no_memory : {after : Ports} → Keeps before.held after.held → NoneFails before after
      → Ends asked before (status_of (Some Memory)) (Some Memory) after
  -- the words or the schedule are ill-formed: nothing was read and nothing written
  usage : {after : Ports} → asked ≡ None → Keeps before.left after.left
      → Keeps before.held after.held
      → NoneFails before after → Ends asked before (status_of (Some Usage)) (Some Usage) after
  -- a run is reported
  reported : {report : Report} {items : List Item} {fault : Option CliFault} {after : Ports}
      → asked ≡ Some (a_report report items) → Reports report items before fault after
      → Ends asked before (status_of fault) fault after
  -- a history is checked
  checked : {answer : Result Verdict CheckFault} {after : Ports} → asked ≡ Some a_check
      → Checks before answer after → SaysLegal before.left answer
      → Ends asked before (status_of_check answer) (fault_of_check answer) after
  -- threads run
  ran : {turns ticks : ℕ} {with_front : Bool} {fault : Option CliFault} {after : Ports}
      → asked ≡ Some (a_run turns ticks with_front) → Runs turns ticks with_front before fault after
      → Ends asked before (status_of fault) fault after

-- the words had a fault, which is reported; nothing was read and nothing written
abbrev pub EndsAtOnce : CliFault → Ports → ℕ → Option CliFault → Ports → Type 0
EndsAtOnce found before status fault after =
    (status ≡ status_of_fault found) × (fault ≡ Some found) × (after ≡ before)
