use Rattle.std.proofs.Common.{arith}
use Rattle.std.proofs.lemmas.Grind.{common_steps}
use Rattle.apex_table.proofs.init.init_steps.Goals as goal

pub returns-in_err-next_init_step : goal.returns-in_err-next_init_step
returns-in_err-next_init_step c = grind (arith, common_steps)

pub loop-text-preserved : goal.loop-text-preserved
loop-text-preserved c = grind (arith, common_steps)

pub returns : goal.returns
returns c = grind (arith, common_steps)
