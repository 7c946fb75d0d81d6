-- Zeros stand behind the words of a half.
use Rattle.std.proofs.Common.{arith}
use Rattle.std.proofs.lemmas.Grind.{common_steps}
use Rattle.std.proofs.lemmas.List.{drop-replicate, length-replicate}
use Rattle.apex_states.proofs.halves.Half.new.Goals as goal

pub returns-clause-half : goal.returns-clause-half
returns-clause-half c = grind (arith, drop-replicate, length-replicate, common_steps)
