use Rattle.std.proofs.Common.{◌≡◌, [], ◌++◌, map}
use Rattle.apex_report.specs.Objects.{object_figures, queues_of}
use Rattle.apex_report.proofs.reports.put_objects.Given as goal

abbrev pub invariant-loop-place : goal.invariant-loop-place
invariant-loop-place l = l.objects ≡ l.fn.objects ++ map (object_figures l.table []) (queues_of l.kind l.place)
