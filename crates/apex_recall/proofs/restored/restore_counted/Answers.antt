use Rattle.std.proofs.Common.{arith}
use Rattle.std.proofs.lemmas.Grind.{common_steps}
use Rattle.apex_recall.proofs.restored.restore_counted.Goals as goal

pub returns-clause-objects : goal.returns-clause-objects
returns-clause-objects c = grind (arith, common_steps)
