use Rattle.std.proofs.Common.{◌≡◌, ◌++◌, take, drop, map}
use Rattle.apex_report.specs.Steps.{core_after}
use Rattle.apex_report.proofs.reports.note_cores.Given as goal

abbrev pub invariant-loop-figures : goal.invariant-loop-figures
invariant-loop-figures l = l.figures-items
    ≡ map (core_after l.entry) (take l.figures-index l.fn.cores.items) ++ drop l.figures-index l.fn.cores.items
