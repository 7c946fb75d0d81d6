use Rattle.std.proofs.Common.{arith}
use Rattle.std.proofs.lemmas.Grind.{common_steps}
use Rattle.apex_store.proofs.handovers.+hand_on.Goals as goal

pub returns-in_default : goal.returns-in_default
returns-in_default g t c = grind (arith, common_steps)

pub returns-in-len1-up : goal.returns-in-len1-up
returns-in-len1-up g t c = grind (arith, common_steps)
