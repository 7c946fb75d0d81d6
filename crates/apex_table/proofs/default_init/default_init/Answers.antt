use Rattle.std.proofs.Common.{arith}
use Rattle.std.proofs.lemmas.Grind.{common_steps}
use Rattle.apex_table.proofs.default_init.default_init.Goals as goal

pub loop-place-preserved : goal.loop-place-preserved
loop-place-preserved c = grind (arith, common_steps)

pub loop-place-2-init : goal.loop-place-2-init
loop-place-2-init c = grind (arith, common_steps)

pub loop-place-2-preserved : goal.loop-place-2-preserved
loop-place-2-preserved c = grind (arith, common_steps)

pub returns : goal.returns
returns c = grind (arith, common_steps)
