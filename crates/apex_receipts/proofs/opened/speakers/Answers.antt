use Rattle.std.proofs.Common.{arith}
use Rattle.std.proofs.lemmas.Grind.{common_steps}
use Rattle.apex_receipts.proofs.opened.speakers.Goals as goal

pub loop-core-preserved : goal.loop-core-preserved
loop-core-preserved c = grind (arith, common_steps)
