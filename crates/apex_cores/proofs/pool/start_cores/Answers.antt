use Rattle.std.proofs.Common.{◌≡◌, ◌+◌, ap, arith, length, refl, rules, sym, ◌∙◌}
use Rattle.std.specs.Prelude.{vec_len}
use Rattle.std.proofs.lemmas.Result.{err_from_is_err_and}
use Rattle.std.specs.Vec.Iter.{into_iter_items, into_iter_len}
use Rattle.apex_receipts.specs.Receipts.{Spoken}
use Rattle.apex_cores.proofs.Asking.{agreed_more, lacks_this}
use Rattle.apex_cores.proofs.Rows.{core_same, each_first, each_more, fresh}
use Rattle.apex_cores.proofs.pool.start_cores.Goals as goal

pub loop-seat-init : goal.loop-seat-init
loop-seat-init g c =
    let count : vec_len c.args.started ≡ length c.args.started.items = search rules in
    let empty : vec_len c.args.started ≡ 0 = count ∙ ap length c.requires.none in
    let items : into_iter_items c.into_iter-seat-iterator.result ≡ c.args.seats.items = search rules in
    let all : into_iter_len c.into_iter-seat-iterator.result ≡ vec_len c.args.seats = search rules in
    record {
      started = rw c.requires.none tt;
      left = rw (empty, items, c.requires.seats) (fresh 0 (vec_len c.args.seats));
      count = omega (arith, empty, all);
      asked = rw empty refl;
      room = c.requires.room;
    }

pub loop-seat-preserved : goal.loop-seat-preserved
loop-seat-preserved g c =
    let started = c.loop-seat.started in
    let old = c.loop-seat.invariant in
    let steps = c.in-Some.ensures.steps in
    let pushed = c.push_reserved.ensures in
    let handle = c.in_ok-start_core.field-0 in
    let first = each_first _ _ _ _ _ steps.0 old.left in
    let count : vec_len started ≡ length started.items = search rules in
    let more : vec_len c.push_reserved.new.self ≡ vec_len started + 1 = omega (arith, pushed.len) in
    let core : handle.promise.core ≡ vec_len started =
    core_same _ _ (sym c.in_ok-start_core.ensures.core ∙ ap (λ (s : Spoken). s.who) first.0) in
    record {
      started = rw pushed.items (each_more _ 0 (vec_len started) started.items handle (omega (arith, count)) old.started (core, c.in_ok-start_core.ensures.turns));
      left = rw more first.1;
      count = omega (arith, more, steps.1, old.count);
      asked = rw more (agreed_more g.S.Starts.asks (vec_len started) (vec_len started) c.args.starts.now c.loop-seat.starts c.start_core.new.starts
          old.asked (c.in_ok-start_core.ensures.asked (vec_len started) (ap (λ (s : Spoken). s.who) first.0)) refl);
      room = omega (arith, pushed.capacity, old.room);
    }

pub returns-in_err-start_core-clause-lacks : goal.returns-in_err-start_core-clause-lacks
returns-in_err-start_core-clause-lacks g c =
    let p = err_from_is_err_and c.from_residual.result c.from_residual.ensures.1 in
    let old = c.loop-seat.invariant in
    let steps = c.in-Some.ensures.steps in
    let first = each_first _ _ _ _ _ steps.0 old.left in
    let started = vec_len c.loop-seat.started in
    rw p.1 (lacks_this g.S.Starts.asks (vec_len c.args.seats) started started c.args.starts.now c.loop-seat.starts
    c.start_core.new.starts old.asked (c.in_err-start_core.ensures.asked started (ap (λ (s : Spoken). s.who) first.0)) refl (omega (arith, steps.1, old.count)))
