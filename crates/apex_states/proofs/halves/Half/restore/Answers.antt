use Rattle.std.proofs.Common.{length, ap, ◌∙◌, arith}
use Rattle.std.proofs.lemmas.Grind.{common_steps}
use Rattle.apex_states.proofs.Halving.{to_restore}
use Rattle.apex_states.proofs.halves.Half.restore.Goals as goal

pub restore-requires-clause-tree : goal.restore-requires-clause-tree
restore-requires-clause-tree c = to_restore c.args.self.now c.args.number c.requires.known.0 c.as_mut_slice.result.now c.requires.half c.requires.known.1 (ap length c.as_mut_slice.ensures.value ∙ c.requires.half.here_long)

pub returns-then-number-self-clause-half : goal.returns-then-number-self-clause-half
returns-then-number-self-clause-half c = grind (arith, common_steps)
