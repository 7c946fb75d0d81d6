use Rattle.std.proofs.Common.{arith}
use Rattle.std.proofs.lemmas.Grind.{common_steps}
use Rattle.apex_warnings.proofs.texts.WarningDisplay.fmt.Goals as goal

pub returns-in-Process-clause-writes : goal.returns-in-Process-clause-writes
returns-in-Process-clause-writes g c = grind (arith, common_steps)

pub returns-in-Step-default-Init-clause-writes : goal.returns-in-Step-default-Init-clause-writes
returns-in-Step-default-Init-clause-writes g c = grind (arith, common_steps)

pub returns-in-Step-default-Script-clause-writes : goal.returns-in-Step-default-Script-clause-writes
returns-in-Step-default-Script-clause-writes g c = grind (arith, common_steps)
