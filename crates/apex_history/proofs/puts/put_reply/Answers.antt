use Rattle.std.proofs.Common.{arith}
use Rattle.std.proofs.lemmas.Grind.{common_steps}
use Rattle.apex_history.proofs.puts.put_reply.Goals as goal

pub returns-in-Code-NoError-clause-text : goal.returns-in-Code-NoError-clause-text
returns-in-Code-NoError-clause-text c = grind (arith, common_steps)

pub returns-in-Blocked-clause-text : goal.returns-in-Blocked-clause-text
returns-in-Blocked-clause-text c = grind (arith, common_steps)

pub returns-in-Idle : goal.returns-in-Idle
returns-in-Idle c = grind (arith, common_steps)
