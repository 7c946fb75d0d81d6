use Rattle.std.proofs.Common.{arith}
use Rattle.std.proofs.lemmas.Grind.{common_steps}
use Rattle.apex_states.proofs.index.Index.widen.Goals as goal

pub fill-requires-clause-size : goal.fill-requires-clause-size
fill-requires-clause-size c = grind (arith, common_steps)

pub returns-then-size-most-clause-kept : goal.returns-then-size-most-clause-kept
returns-then-size-most-clause-kept c = grind (arith, common_steps)

pub returns-then-size-most-clause-wide : goal.returns-then-size-most-clause-wide
returns-then-size-most-clause-wide c = grind (arith, common_steps)
