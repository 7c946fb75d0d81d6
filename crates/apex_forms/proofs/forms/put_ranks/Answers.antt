use Rattle.std.proofs.Common.{refl, arith}
use Rattle.apex_forms.proofs.Ranking.{counted_more, ranks_counted}
use Rattle.apex_forms.proofs.forms.put_ranks.Goals as goal

pub loop-place-preserved : goal.loop-place-preserved
loop-place-preserved c =
    let store = c.args.store.now in
    let place = c.loop-place.place in
    counted_more store c.older_rivals.new.ranks place place c.older_rivals.result c.older_rivals.ensures.ranks
    (omega (arith, c.loop-place-test.true, c.process_count-place-end.ensures.value))
    (omega (arith, c.loop-place-test.true, c.process_count-place-end.ensures.range)) refl c.older_rivals.ensures.value

pub returns : goal.returns
returns c =
    ranks_counted c.args.store.now c.loop-place.ranks c.loop-place.place c.loop-place.invariant
    (omega (arith, c.loop-place-test.false, c.process_count-place-end.ensures.value))
    (omega (arith, c.process_count-place-end.ensures.value, c.process_count-place-end.ensures.range))
