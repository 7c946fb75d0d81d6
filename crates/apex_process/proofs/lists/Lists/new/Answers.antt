use Rattle.std.proofs.Common.{arith}
use Rattle.std.proofs.lemmas.Grind.{common_steps}
use Rattle.apex_process.proofs.Emptied.{opened_kept}
use Rattle.apex_process.proofs.lists.Lists.new.Goals as goal

pub invariant_of-result : goal.invariant_of-result
invariant_of-result c = opened_kept _ _ _ _ c.args.processes c.in_ok-new.ensures c.new-2.ensures c.in_ok-new-2.ensures.counts c.in_ok-new-2.ensures.priorities c.requires

pub returns-clause-rows : goal.returns-clause-rows
returns-clause-rows c = grind (arith, common_steps)
