use Rattle.std.proofs.Common.{arith}
use Rattle.std.proofs.lemmas.Grind.{common_steps}
use Rattle.apex_states.proofs.halves.Half.begin.Goals as goal

pub returns-clause-half : goal.returns-clause-half
returns-clause-half c = grind (arith, common_steps)
