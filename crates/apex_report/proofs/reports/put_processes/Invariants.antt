use Rattle.std.proofs.Common.{◌≡◌, [], map}
use Rattle.std.specs.List.{range_with_len}
use Rattle.apex_report.specs.Processes.{process_figures}
use Rattle.apex_report.proofs.reports.put_processes.Given as goal

abbrev pub invariant-loop-place : goal.invariant-loop-place
invariant-loop-place l = l.list ≡ map (process_figures []) (range_with_len 0 l.place)
