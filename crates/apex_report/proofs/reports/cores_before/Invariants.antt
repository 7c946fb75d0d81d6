use Rattle.std.proofs.Common.{◌≡◌, [], map}
use Rattle.std.specs.List.{range_with_len}
use Rattle.apex_report.specs.Cores.{core_figures}
use Rattle.apex_report.proofs.reports.cores_before.Given as goal

abbrev pub invariant-loop-core : goal.invariant-loop-core
invariant-loop-core l = l.cores.items ≡ map (core_figures []) (range_with_len 0 l.core)
