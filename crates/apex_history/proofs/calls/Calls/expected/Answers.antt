use Rattle.std.proofs.Common.{arith}
use Rattle.std.proofs.lemmas.Grind.{elements}
use Rattle.apex_history.proofs.calls.Calls.expected.Goals as goal

pub returns-clause-place : goal.returns-clause-place
returns-clause-place c = grind (arith, elements)
