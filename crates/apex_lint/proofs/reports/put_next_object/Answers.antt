use Rattle.std.proofs.Common.{arith}
use Rattle.std.proofs.lemmas.Grind.{common_steps}
use Rattle.apex_lint.specs.Reports.{next_object_text}
use Rattle.apex_lint.proofs.reports.put_next_object.Goals as goal

pub returns : goal.returns
unfolding next_object_text
returns c = grind (arith, common_steps)
