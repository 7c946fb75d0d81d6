use Rattle.std.proofs.Common.{[], arith}
use Rattle.std.proofs.lemmas.Grind.{common_steps}
use Rattle.std.proofs.lemmas.List.FromFn.{map-range_with_len_more}
use Rattle.apex_report.specs.Cores.{core_figures}
use Rattle.apex_report.proofs.reports.cores_before.Goals as goal

pub loop-core-preserved : goal.loop-core-preserved
loop-core-preserved c =
    rw (map-range_with_len_more (core_figures []) 0 c.loop-core.core c.loop-core.core (omega arith)) (grind (arith, common_steps))
