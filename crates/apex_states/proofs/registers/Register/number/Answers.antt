use Rattle.std.proofs.Common.{arith}
use Rattle.std.proofs.lemmas.Grind.{elements}
use Rattle.apex_states.proofs.registers.Register.number.Goals as goal

pub returns-in-New-clause-number : goal.returns-in-New-clause-number
returns-in-New-clause-number c = grind (arith, elements)

pub returns-in-New-clause-rows : goal.returns-in-New-clause-rows
returns-in-New-clause-rows c = grind (arith, elements)

pub returns-in-New-clause-apart : goal.returns-in-New-clause-apart
returns-in-New-clause-apart c = grind (arith, elements)
