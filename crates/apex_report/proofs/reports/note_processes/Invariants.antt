use Rattle.std.proofs.Common.{◌≡◌, ◌++◌, take, drop, map}
use Rattle.apex_report.specs.Steps.{process_after}
use Rattle.apex_report.proofs.reports.note_processes.Given as goal

abbrev pub invariant-loop-figures : goal.invariant-loop-figures
invariant-loop-figures l = l.figures-items
    ≡ map (process_after l.entry) (take l.figures-index l.fn.processes.items) ++ drop l.figures-index l.fn.processes.items
