use Rattle.std.proofs.Common.{arith}
use Rattle.std.proofs.lemmas.Grind.{elements, common_steps}
use Rattle.apex_history.proofs.calls.Calls.add.Goals as goal

pub returns-clause-place : goal.returns-clause-place
returns-clause-place c = grind (arith, elements)

pub returns-clause-calls : goal.returns-clause-calls
returns-clause-calls c = grind (arith, common_steps)
