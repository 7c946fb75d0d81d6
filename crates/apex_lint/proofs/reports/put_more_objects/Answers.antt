use Rattle.std.proofs.Common.{arith}
use Rattle.std.proofs.lemmas.Grind.{common_steps}
use Rattle.apex_lint.proofs.reports.put_more_objects.Goals as goal

pub loop-remark-preserved : goal.loop-remark-preserved
loop-remark-preserved c = grind (arith, common_steps)

pub returns : goal.returns
returns c = grind (arith, common_steps)
