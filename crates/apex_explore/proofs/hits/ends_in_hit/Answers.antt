-- A choice that goes on leaves the others.
use Rattle.std.proofs.Common.{◌<◌, length, get_or, arith}
use Rattle.apex_explore.specs.Systems.{goes, step_within}
use Rattle.std.proofs.lemmas.Grind.{common_steps}
use Rattle.apex_explore.proofs.Growth.{taken_step}
use Rattle.apex_explore.proofs.Hitting.{IsOn-goes}
use Rattle.apex_explore.proofs.hits.ends_in_hit.Goals as goal

pub loop-place-preserved : goal.loop-place-preserved
loop-place-preserved g c =
    let choices = g.S.System.choice_count c.args.system.now in
    let own = g.S.System.step c.args.system.now in
    let path = c.args.path.now in
    let place = c.loop-place.place in
    let below : place < length path = omega arith in
    let within : get_or path place 0 < c.choices.result = omega arith in
    let leads = taken_step choices own c.loop-place.state (get_or path place 0) c.choices.result (goes c.next.new.next) within c.choices.ensures c.in-Next.ensures.step in
    rw c.copy_from_slice.ensures.after record {
      so_far = IsOn-goes (step_within choices own) c.args.state.now c.loop-place.state path place c.loop-place.invariant.so_far c.next.new.next below leads;
      known = c.in-Next.ensures.state;
      workspace = c.next.ensures.workspace;
    }

pub returns-then-choice-choices : goal.returns-then-choice-choices
returns-then-choice-choices g c = grind (arith, common_steps)

pub returns-in-Refused : goal.returns-in-Refused
returns-in-Refused g c = grind (arith, common_steps)

pub returns-in-Hit : goal.returns-in-Hit
returns-in-Hit g c = grind (arith, common_steps)

pub returns : goal.returns
returns g c = grind (arith, common_steps)
