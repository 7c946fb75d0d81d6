use Rattle.std.proofs.Common.{arith}
use Rattle.std.proofs.lemmas.Grind.{common_steps}
use Rattle.apex_warnings.proofs.Lists.{calls_step}
use Rattle.apex_warnings.proofs.steps.init_of.Goals as goal

pub loop-place-preserved : goal.loop-place-preserved
loop-place-preserved c =
    calls_step _ _ _ c.args.table.now.init c.loop-place.place _ c.loop-place.invariant c.init_call.ensures
    c.in_ok-push_call.ensures

pub returns : goal.returns
returns c = grind (arith, common_steps)
