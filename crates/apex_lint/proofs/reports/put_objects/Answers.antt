use Rattle.std.proofs.Common.{arith}
use Rattle.std.proofs.lemmas.Grind.{common_steps}
use Rattle.apex_lint.proofs.reports.put_objects.Goals as goal

pub returns : goal.returns
returns c = grind (arith, common_steps)
