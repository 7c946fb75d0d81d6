-- A search goes on from its front, by several threads.
use Rattle.std.proofs.Common.{◌≡◌, ◌+◌, ◌-◌, ◌<◌, ◌≤◌, length, refl, ◌∙◌, arith}
use Rattle.apex_explore.specs.Systems.{step_within}
use Rattle.apex_explore.proofs.Weaker.{at_front}
use Rattle.apex_jobs.proofs.jobs.Jobs.go_on.Goals as goal

pub loop-desks-init : goal.loop-desks-init
loop-desks-init g c =
    let step = step_within (g.S.System.choice_count c.args.system.now) (g.S.System.step c.args.system.now) in
    let some : 0 < length c.args.search.now.states.states = omega arith in
    record { over = c.requires.over; searched = at_front step (g.S.System.start c.args.system.now) c.args.search.now some c.requires.searched; desks = rw c.as_mut_slice-desks.ensures.value c.in_ok-desks.ensures.desks; some = rw c.as_mut_slice-desks.ensures.value (omega (arith, c.in_ok-desks.ensures.count)); room = refl }

pub loop-desks-preserved : goal.loop-desks-preserved
loop-desks-preserved g c =
    let kept = c.in_ok-stopped.ensures in
    record {
      over = kept.over;
      searched = kept.searched;
      desks = kept.desks c.in-None.is;
      some = omega (arith, c.loop-desks.invariant.some, c.go_on_level.auto.desks);
      room = kept.room ∙ c.loop-desks.invariant.room;
    }

pub loop-desks-smaller : goal.loop-desks-smaller
loop-desks-smaller g c =
    let old = c.loop-desks.search in
    let new = c.go_on_level.new.search in
    let room : new.states.room ≡ old.states.room = c.in_ok-stopped.ensures.room in
    let further : old.front.at < new.front.at = c.in_ok-stopped.ensures.further c.in-None.is in
    let fits : length old.states.states ≤ old.states.room = c.show.ensures in
    let smaller : new.states.room + 1 - new.front.at < old.states.room + 1 - old.front.at = omega (arith, room, further, fits, c.loop-desks.invariant.searched.in_order, c.loop-desks.invariant.searched.in_states) in
    smaller
