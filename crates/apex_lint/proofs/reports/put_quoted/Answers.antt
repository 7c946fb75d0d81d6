use Rattle.std.proofs.Common.{arith}
use Rattle.std.proofs.lemmas.Grind.{common_steps}
use Rattle.apex_lint.specs.Reports.{quoted}
use Rattle.apex_lint.proofs.reports.put_quoted.Goals as goal

pub returns : goal.returns
unfolding quoted
returns c = grind (arith, common_steps)
