use Rattle.std.proofs.Common.{arith}
use Rattle.std.proofs.lemmas.Grind.{common_steps, elements}
use Rattle.apex_history.proofs.puts.put_spaced_code.Goals as goal

pub returns-in-NoError-clause-text : goal.returns-in-NoError-clause-text
returns-in-NoError-clause-text c = grind (arith, common_steps)

pub returns-in-NoAction-clause-text : goal.returns-in-NoAction-clause-text
returns-in-NoAction-clause-text c = grind (arith, common_steps)

pub returns-in-NotAvailable-clause-text : goal.returns-in-NotAvailable-clause-text
returns-in-NotAvailable-clause-text c = grind (arith, elements)

pub returns-in-InvalidParam-clause-text : goal.returns-in-InvalidParam-clause-text
returns-in-InvalidParam-clause-text c = grind (arith, elements)

pub returns-in-InvalidConfig-clause-text : goal.returns-in-InvalidConfig-clause-text
returns-in-InvalidConfig-clause-text c = grind (arith, common_steps)

pub returns-in-InvalidMode-clause-text : goal.returns-in-InvalidMode-clause-text
returns-in-InvalidMode-clause-text c = grind (arith, common_steps)

pub returns-in-TimedOut-clause-text : goal.returns-in-TimedOut-clause-text
returns-in-TimedOut-clause-text c = grind (arith, common_steps)
