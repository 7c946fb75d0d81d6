-- A search goes on from its front, or ends at once.
use Rattle.std.proofs.Common.{◌≡◌, ◌+◌, ◌-◌, ◌<◌, ◌≤◌, length, refl, arith}
use Rattle.apex_explore.specs.Systems.{step_within}
use Rattle.apex_explore.proofs.Weaker.{at_front, full_at_once}
use Rattle.apex_explore.proofs.searches.Search.go_on.Goals as goal

pub returns-then-len-eq0-clause-says : goal.returns-then-len-eq0-clause-says
returns-then-len-eq0-clause-says g c =
    let step = step_within (g.S.System.choice_count c.args.system.now) (g.S.System.step c.args.system.now) in
    let none : length c.args.self.now.states.states ≡ 0 = omega arith in
    full_at_once step (g.S.System.start c.args.system.now) c.args.self.now none c.requires.searched

pub loop-stopped-init : goal.loop-stopped-init
loop-stopped-init g c =
    let step = step_within (g.S.System.choice_count c.args.system.now) (g.S.System.step c.args.system.now) in
    let some : 0 < length c.args.self.now.states.states = omega arith in
    record { over = c.requires.over; searched = at_front step (g.S.System.start c.args.system.now) c.args.self.now some c.requires.searched; room = refl }

pub loop-stopped-smaller : goal.loop-stopped-smaller
loop-stopped-smaller g c =
    let old = c.loop-stopped.self in
    let new = c.go_on_for.new.self in
    let room : new.states.room ≡ old.states.room = c.in_ok-stopped.ensures.room in
    let count : new.front.at ≡ old.front.at + 4096 = c.in_ok-stopped.ensures.count c.in-None.is in
    let fits : length old.states.states ≤ old.states.room = c.show.ensures in
    let smaller : new.states.room + 1 - new.front.at < old.states.room + 1 - old.front.at = omega (arith, room, count, fits, c.loop-stopped.invariant.searched.in_order, c.loop-stopped.invariant.searched.in_states) in
    smaller
