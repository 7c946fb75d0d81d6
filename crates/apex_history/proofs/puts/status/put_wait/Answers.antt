use Rattle.std.proofs.Common.{arith}
use Rattle.std.proofs.lemmas.Grind.{elements}
use Rattle.apex_history.proofs.puts.status.put_wait.Goals as goal

pub returns-in-Blackboard-clause-text : goal.returns-in-Blackboard-clause-text
returns-in-Blackboard-clause-text c = grind (arith, elements)
