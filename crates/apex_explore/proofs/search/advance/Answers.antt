-- One more state is done, and the ends of the search.
use Rattle.std.proofs.Common.{◌<◌, length, sym, ap, ◌∙◌, arith}
use Rattle.apex_explore.specs.Systems.{step_within}
use Rattle.apex_explore.specs.declared.fronts.Front.{Front}
use Rattle.apex_explore.proofs.Levels.{turned_at, IsLevel-done, IsLevel-grown, IsLevel-turned}
use Rattle.apex_explore.proofs.search.advance.Goals as goal

pub loop-made-preserved : goal.loop-made-preserved
loop-made-preserved g c =
    let step = step_within (g.S.System.choice_count c.args.system.now) (g.S.System.step c.args.system.now) in
    let first = g.S.System.start c.args.system.now in
    let states = c.loop-made.states.states in
    let origins = c.loop-made.states.origins in
    let more : c.loop-made.front.at < length states = omega arith in
    let turn = IsLevel-turned step first states origins c.loop-made.front c.turned.result c.len-reached.result more c.loop-made.invariant.level c.len-reached.ensures.len c.turned.ensures in
    record {
      level = IsLevel-done step first states origins c.expand.new.states.states c.expand.new.states.origins c.turned.result.at c.turned.result.depth c.turned.result.level_end turn.1 turn.0 c.in_ok-expanded.ensures.grows (rw c.in-All.is at c.in_ok-expanded.ensures.outcome);
      width = c.in_ok-expanded.ensures.width ∙ c.loop-made.invariant.width;
      room = c.in_ok-expanded.ensures.room ∙ c.loop-made.invariant.room;
      workspace = c.in_ok-expanded.ensures.workspace;
      all = c.in_ok-expanded.ensures.states;
      moved = omega (arith, c.loop-made.invariant.moved, ap (λ (f : Front). f.at) c.turned.ensures, turned_at c.loop-made.front c.len-reached.result);
    }

pub returns-in-Struck-clause-level : goal.returns-in-Struck-clause-level
returns-in-Struck-clause-level g c =
    let step = step_within (g.S.System.choice_count c.args.system.now) (g.S.System.step c.args.system.now) in
    let first = g.S.System.start c.args.system.now in
    let states = c.loop-made.states.states in
    let origins = c.loop-made.states.origins in
    let more : c.loop-made.front.at < length states = omega arith in
    let turn = IsLevel-turned step first states origins c.loop-made.front c.turned.result c.len-reached.result more c.loop-made.invariant.level c.len-reached.ensures.len c.turned.ensures in
    IsLevel-grown step first states origins c.expand.new.states.states c.expand.new.states.origins c.turned.result.at c.turned.result.depth c.turned.result.level_end turn.1 turn.0 c.in_ok-expanded.ensures.grows

pub returns-in-Over-clause-level : goal.returns-in-Over-clause-level
returns-in-Over-clause-level g c =
    let step = step_within (g.S.System.choice_count c.args.system.now) (g.S.System.step c.args.system.now) in
    let first = g.S.System.start c.args.system.now in
    let states = c.loop-made.states.states in
    let origins = c.loop-made.states.origins in
    let more : c.loop-made.front.at < length states = omega arith in
    let turn = IsLevel-turned step first states origins c.loop-made.front c.turned.result c.len-reached.result more c.loop-made.invariant.level c.len-reached.ensures.len c.turned.ensures in
    IsLevel-grown step first states origins c.expand.new.states.states c.expand.new.states.origins c.turned.result.at c.turned.result.depth c.turned.result.level_end turn.1 turn.0 c.in_ok-expanded.ensures.grows

pub returns-in-Over-clause-stop : goal.returns-in-Over-clause-stop
returns-in-Over-clause-stop g c =
    let step = step_within (g.S.System.choice_count c.args.system.now) (g.S.System.step c.args.system.now) in
    let first = g.S.System.start c.args.system.now in
    let states = c.loop-made.states.states in
    let origins = c.loop-made.states.origins in
    let more : c.loop-made.front.at < length states = omega arith in
    let turn = IsLevel-turned step first states origins c.loop-made.front c.turned.result c.len-reached.result more c.loop-made.invariant.level c.len-reached.ensures.len c.turned.ensures in
    let over = rw c.in-Over.is at c.in_ok-expanded.ensures.outcome in
    (c.turned.result.at, omega arith, turn.1, (over.0, over.1, over.2, over.3, over.4, over.5, over.6 ∙ sym c.in_ok-expanded.ensures.room))
