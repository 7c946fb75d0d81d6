use Rattle.std.proofs.Common.{arith, append_assoc}
use Rattle.std.proofs.lemmas.Grind.{common_steps}
use Rattle.apex_history.proofs.puts.put_any_reply.Goals as goal

pub returns-in-Value-clause-text : goal.returns-in-Value-clause-text
returns-in-Value-clause-text c = grind (arith, common_steps)

pub returns-in-Status-clause-text : goal.returns-in-Status-clause-text
returns-in-Status-clause-text c = grind (arith, common_steps)

pub returns-in-Message-clause-text : goal.returns-in-Message-clause-text
returns-in-Message-clause-text c = grind (arith, common_steps)

pub returns-in-Blocked-clause-text : goal.returns-in-Blocked-clause-text
returns-in-Blocked-clause-text c = grind (arith, common_steps)

pub returns-in-Gone-clause-text : goal.returns-in-Gone-clause-text
returns-in-Gone-clause-text c = grind (arith, common_steps)

pub returns-in-Idle-clause-text : goal.returns-in-Idle-clause-text
returns-in-Idle-clause-text c = grind (arith, common_steps)

pub returns-in-Begun-clause-text : goal.returns-in-Begun-clause-text
returns-in-Begun-clause-text c = grind (arith, common_steps)

pub returns-in-Done-clause-text : goal.returns-in-Done-clause-text
returns-in-Done-clause-text c = grind (arith, common_steps)

pub returns-in-Lost-clause-text : goal.returns-in-Lost-clause-text
returns-in-Lost-clause-text c = grind (arith, common_steps)

pub returns-in-Advanced-clause-text : goal.returns-in-Advanced-clause-text
returns-in-Advanced-clause-text c = grind (arith, append_assoc)
