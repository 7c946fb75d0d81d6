use Rattle.std.proofs.Common.{arith, append_assoc}
use Rattle.std.proofs.lemmas.Grind.{common_steps}
use Rattle.apex_history.proofs.puts.put_noticed.Goals as goal

pub returns-in-Woken-clause-text : goal.returns-in-Woken-clause-text
returns-in-Woken-clause-text c = grind (arith, common_steps)

pub returns-in-Released-clause-text : goal.returns-in-Released-clause-text
returns-in-Released-clause-text c = grind (arith, append_assoc)

pub returns-in-Missed-clause-text : goal.returns-in-Missed-clause-text
returns-in-Missed-clause-text c = grind (arith, common_steps)
