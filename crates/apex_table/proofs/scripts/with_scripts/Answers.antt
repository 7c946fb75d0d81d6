use Rattle.std.proofs.Common.{arith}
use Rattle.std.proofs.lemmas.Grind.{common_steps}
use Rattle.apex_table.proofs.scripts.with_scripts.Goals as goal

pub returns-in_err-next_entry-clause-gives : goal.returns-in_err-next_entry-clause-gives
returns-in_err-next_entry-clause-gives c = grind (arith, common_steps)

pub loop-draft-preserved : goal.loop-draft-preserved
loop-draft-preserved c = grind (arith, common_steps)

pub returns-clause-gives : goal.returns-clause-gives
returns-clause-gives c = grind (arith, common_steps)
