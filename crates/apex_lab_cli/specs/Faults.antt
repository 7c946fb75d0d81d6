-- The faults of the program, and its exit status.
use Rattle.std.specs.Prelude.{codes, decimal, ℕ, List, ◌++◌, Some}
use Rattle.apex_console.specs.Faults.{fault_line, status_of_fault as common_status}
use Rattle.apex_console.specs.declared.CliFault.{CliFault}
use Rattle.apex_console.specs.declared.CliFault.TheVariants.{Usage}
use Rattle.apex_views.specs.Faults.{schedule_line, window_line}
use Rattle.apex_inquiries.specs.declared.SearchFault.{SearchFault}
use Rattle.apex_inquiries.specs.declared.SearchFault.TheVariants as search
use Rattle.apex_tasks.specs.Faults.{usage_line}
use Rattle.apex_tasks.specs.declared.TaskFault.{TaskFault}
use Rattle.apex_tasks.specs.declared.TaskFault.TheVariants as task
use Rattle.apex_views.specs.declared.ShowFault.{ShowFault}
use Rattle.apex_views.specs.declared.ShowFault.TheVariants as showing
use Rattle.apex_lab_cli.specs.declared.faults.LabFault.{LabFault}
use Rattle.apex_lab_cli.specs.declared.faults.LabFault.TheVariants.{Common, Empty, NoEntry, NoProcess, Schedule, StatesFull}

-- the fault of words that ask for nothing
abbrev pub fault_of_task : TaskFault → LabFault
fault_of_task (task.Common fault) = Common fault
fault_of_task (task.Schedule bad) = Schedule bad

-- a fault of a search
abbrev pub fault_of_search : SearchFault → LabFault
fault_of_search (search.Common fault) = Common fault
fault_of_search (search.NoProcess name) = NoProcess name
fault_of_search (search.StatesFull room) = StatesFull room

-- a fault of a showing
abbrev pub fault_of_showing : ShowFault → LabFault
fault_of_showing (showing.Common fault) = Common fault
fault_of_showing (showing.Schedule bad) = Schedule bad
fault_of_showing (showing.Empty window) = Empty window
fault_of_showing (showing.NoProcess name) = NoProcess name

-- the line of a fault that the program `apex` has too; ill-formed words have a line of this program
abbrev pub common_line : CliFault → List ℕ
common_line Usage = usage_line
common_line fault = fault_line (Some fault)

-- the line that reports that there is no process of this name or number
abbrev pub process_line : List ℕ → List ℕ
process_line name = codes "apex_lab: no process " ++ name ++ codes "\n"

-- the line that reports that the history of a run has no entry of this number
abbrev pub entry_line : ℕ → List ℕ
entry_line number = codes "apex_lab: no entry " ++ decimal number ++ codes "\n"

-- the line that reports that a search has room for this many states, and reached more
abbrev pub states_line : ℕ → List ℕ
states_line room = codes "apex_lab: search full after " ++ decimal room ++ codes " states\n"

-- the line that reports a fault
abbrev pub line_of_fault : LabFault → List ℕ
line_of_fault (Common fault) = common_line fault
line_of_fault (Schedule bad) = schedule_line bad
line_of_fault (NoProcess name) = process_line name
line_of_fault (NoEntry number) = entry_line number
line_of_fault (StatesFull room) = states_line room
line_of_fault (Empty window) = window_line window

-- the exit status of a fault: 2 for a schedule's text and for a process, an entry or a window that is
-- not there, 4 if a search has no room for more states, else that of `apex`
abbrev pub status_of_fault : LabFault → ℕ
status_of_fault (Common fault) = common_status fault
status_of_fault (Schedule bad) = 2
status_of_fault (NoProcess name) = 2
status_of_fault (NoEntry number) = 2
status_of_fault (StatesFull room) = 4
status_of_fault (Empty window) = 2
