use Rattle.std.proofs.Common.{◌≡◌, ◌++◌, take, drop, map}
use Rattle.apex_report.specs.ObjectSteps.{object_after}
use Rattle.apex_report.proofs.reports.note_objects.Given as goal

abbrev pub invariant-loop-figures : goal.invariant-loop-figures
invariant-loop-figures l = l.figures-items
    ≡ map (object_after l.entry l.wakings l.processes) (take l.figures-index l.fn.objects.items) ++ drop l.figures-index l.fn.objects.items
