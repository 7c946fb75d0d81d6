use Rattle.std.proofs.Common.{arith}
use Rattle.std.proofs.lemmas.Grind.{common_steps}
use Rattle.apex_states.specs.Index.{home_of}
use Rattle.apex_states.proofs.index.home.Goals as goal

pub returns : goal.returns
unfolding home_of
returns c = grind (arith, common_steps)
