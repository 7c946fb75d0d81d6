use Rattle.std.proofs.Common.{◌≡◌, arith, subst, sym}
use Rattle.apex_types.specs.declared.entries.Entry.{Entry}
use Rattle.apex_cores.specs.Works.{DidWork, begun_in}
use Rattle.apex_cores.proofs.Handing.{all_done, none_at_work, works_on}
use Rattle.apex_cores.proofs.Running.{last_made, whole}
use Rattle.apex_cores.proofs.cores.run_core.Goals as goal

pub loop-made-init : goal.loop-made-init
loop-made-init g c =
    let ok = c.in-Ok.ensures.ok in
    let receipt = c.in-Ok.last in
    let done = subst (λ (e : Entry). DidWork g.G.Gate.does c.core-core.result (begun_in e) c.args.token.now c.follow_turn.new.token)
    c.entry.ensures c.follow_turn.ensures in
    rw ok.0 (record {
      at_work = works_on g.G.Gate.does _ c.args.seat c.args.seat 0 receipt.entry c.args.token.now c.args.token.now _
          (none_at_work g.G.Gate.does _ c.args.seat c.args.token.now) done;
      some = omega arith;
      last = last_made c.args.seat receipt ok.2;
    })

pub loop-made-preserved : goal.loop-made-preserved
loop-made-preserved g c =
    let ok = c.in-Ok-turn_into.ensures.ok in
    let seat = c.loop-made.seat in
    let receipt = c.turn_into.new.receipt in
    let done = subst (λ (e : Entry). DidWork g.G.Gate.does c.core-core.result (begun_in e) c.loop-made.token c.follow_turn-in-loop-made.new.token)
    c.entry-in-loop-made.ensures c.follow_turn-in-loop-made.ensures in
    rw ok.0 (record {
      at_work = works_on g.G.Gate.does _ c.args.seat seat c.loop-made.made receipt.entry c.args.token.now _ _
          c.loop-made.invariant.at_work done;
      some = omega arith;
      last = last_made seat receipt ok.2;
    })

pub returns : goal.returns
returns g c =
    let all : c.loop-made.made ≡ c.args.turns = omega arith in
    let at_work = c.loop-made.invariant.at_work in
    rw (sym all) (record {
      ran = whole c.args.seat c.loop-made.seat c.loop-made.made at_work.underway;
      last = (c.loop-made.invariant.some, c.loop-made.invariant.last);
      works = all_done g.G.Gate.does _ _ _ _ _ _ c.core-core.ensures at_work;
    })
