use Rattle.std.proofs.Common.{arith}
use Rattle.std.proofs.lemmas.Grind.{common_steps}
use Rattle.apex_lint.specs.Reports.{object_front}
use Rattle.apex_lint.proofs.reports.put_object_front.Goals as goal

pub returns : goal.returns
unfolding object_front
returns c = grind (arith, common_steps)
