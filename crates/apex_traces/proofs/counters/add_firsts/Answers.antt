-- The next text follows those before it.
use Rattle.std.proofs.Common.{[], arith}
use Rattle.apex_traces.specs.Counters.{count_at}
use Rattle.apex_moments.proofs.Places.{text_next}
use Rattle.apex_traces.proofs.counters.add_firsts.Goals as goal

pub loop-place-preserved : goal.loop-place-preserved
loop-place-preserved c = record {
  many = c.loop-place.invariant.many;
  text = text_next (count_at c.args.table.now 0 c.args.kind [] c.args.first.now) c.loop-place.place _ _ _ c.loop-place.invariant.text
      c.add_first.ensures.text;
  short = omega (arith, c.loop-place.invariant.short, c.add_first.ensures.short);
}
