use Rattle.std.proofs.Common.{[], arith}
use Rattle.std.proofs.lemmas.Grind.{common_steps}
use Rattle.std.proofs.lemmas.List.FromFn.{map-range_with_len_more}
use Rattle.apex_report.specs.Processes.{process_figures}
use Rattle.apex_report.proofs.reports.put_processes.Goals as goal

pub loop-place-preserved : goal.loop-place-preserved
loop-place-preserved c =
    rw (map-range_with_len_more (process_figures []) 0 c.loop-place.place c.loop-place.place (omega arith)) (grind (arith, common_steps))
