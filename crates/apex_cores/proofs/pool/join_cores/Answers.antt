use Rattle.std.proofs.Common.{◌≡◌, ◌+◌, ◌≤◌, ap, arith, length, rules, ◌∙◌}
use Rattle.std.specs.Prelude.{vec_len}
use Rattle.std.specs.Vec.{vec_capacity}
use Rattle.std.specs.Vec.Iter.{into_iter_items, into_iter_len}
use Rattle.apex_cores.specs.Threads.{EachFrom, HasWorked, IsTaskOf}
use Rattle.apex_cores.proofs.Rows.{each_first, each_more, worked_by}
use Rattle.apex_cores.proofs.pool.join_cores.Given.{Over}
use Rattle.apex_cores.proofs.pool.join_cores.Goals.{After-push_reserved}
use Rattle.apex_cores.proofs.pool.join_cores.Goals as goal

-- one worker more was joined, and the others are left
joined : (g : Over) (c : After-push_reserved g) →
    let seats = c.push_reserved.new.self in
    let left = into_iter_items c.next.new.self in
    EachFrom (HasWorked c.args.turns) 0 seats.items
    × EachFrom (λ core handle. IsTaskOf c.args.turns core handle.promise) (vec_len seats) left
    × (vec_len seats + into_iter_len c.next.new.self ≡ vec_len c.args.started)
    × (vec_len c.args.started ≤ vec_capacity seats)
joined g c =
    let seats = c.loop-handle.seats in
    let old = c.loop-handle.invariant in
    let steps = c.in-Some.ensures.steps in
    let pushed = c.push_reserved.ensures in
    let first = each_first _ _ _ _ _ steps.0 old.left in
    let count : vec_len seats ≡ length seats.items = search rules in
    let more : vec_len c.push_reserved.new.self ≡ vec_len seats + 1 = omega (arith, pushed.len) in
    let here : HasWorked c.args.turns (vec_len seats) c.join.result.seat =
    worked_by _ _ _ _ c.join.result.turns c.join.result.full c.join.result.seat first.0.0 first.0.1 c.join.ensures in (
      rw pushed.items (each_more (HasWorked c.args.turns) 0 (vec_len seats) seats.items c.join.result.seat (omega (arith, count)) old.worked here),
      rw more first.1,
      omega (arith, more, steps.1, old.count),
      omega (arith, pushed.capacity, old.room),
    )

pub loop-handle-init : goal.loop-handle-init
loop-handle-init g c =
    let count : vec_len c.args.seats ≡ length c.args.seats.items = search rules in
    let empty : vec_len c.args.seats ≡ 0 = count ∙ ap length c.requires.none in
    let items : into_iter_items c.into_iter-handle-iterator.result ≡ c.args.started.items = search rules in
    let all : into_iter_len c.into_iter-handle-iterator.result ≡ vec_len c.args.started = search rules in
    record {
      worked = rw c.requires.none tt;
      left = rw (empty, items) c.requires.started;
      count = omega (arith, empty, all);
      room = c.requires.room;
    }

pub loop-handle-preserved-in-Some : goal.loop-handle-preserved-in-Some
loop-handle-preserved-in-Some g c =
    let j = joined g (goal.at.loop-handle-preserved-in-Some g c).After-push_reserved in
    record { worked = j.0; left = j.1; count = j.2; room = j.3 }

pub loop-handle-preserved : goal.loop-handle-preserved
loop-handle-preserved g c =
    let j = joined g (goal.at.loop-handle-preserved g c).After-push_reserved in
    record { worked = j.0; left = j.1; count = j.2; room = j.3 }
