-- The reason why words ask for nothing, and the line that reports ill-formed words.
use Rattle.std.specs.Prelude.{codes, ℕ, List}
use Rattle.apex_console.specs.declared.CliFault.TheVariants.{Memory}
use Rattle.apex_showings.specs.declared.ItemsFault.{ItemsFault}
use Rattle.apex_showings.specs.declared.ItemsFault.TheVariants as items
use Rattle.apex_tasks.specs.declared.faults.TaskFault.{TaskFault}
use Rattle.apex_tasks.specs.declared.faults.TaskFault.TheVariants.{Common, Schedule}

-- the fault of a schedule's text
abbrev pub fault_of_items : ItemsFault → TaskFault
fault_of_items items.Memory = Common Memory
fault_of_items (items.Schedule bad) = Schedule bad

-- the line that reports ill-formed words
abbrev pub usage_line : List ℕ
usage_line =
    codes "apex_lab: usage: apex_lab svg|trace|vcd|lines|status|report|schedule [--schedule S|--until T], apex_lab search [--for WORD|--worst P], apex_lab lint|step|check, apex_lab why --entry N\n"
