use Rattle.std.proofs.Common.{◌≡◌, ◌++◌, take, drop, map}
use Rattle.apex_report.specs.Steps.{service_after}
use Rattle.apex_report.proofs.services.note_each.Given as goal

abbrev pub invariant-loop-figures : goal.invariant-loop-figures
invariant-loop-figures l = l.figures-items
    ≡ map (service_after l.entry) (take l.figures-index l.fn.services.items) ++ drop l.figures-index l.fn.services.items
