-- The next signal follows those so far.
use Rattle.std.proofs.Common.{arith}
use Rattle.apex_waves.specs.Kinds.{signal_at}
use Rattle.apex_waves.proofs.Nexts.{place_more}
use Rattle.apex_waves.proofs.signals.add_signals.Goals as goal

pub loop-place-preserved : goal.loop-place-preserved
loop-place-preserved c = record {
  end = c.loop-place.invariant.end;
  few = c.loop-place.invariant.few;
  many = omega (arith, c.push.ensures.len, c.loop-place.invariant.many);
  items = place_more (signal_at c.args.kind) c.loop-place.place _ _ _ _ c.loop-place.invariant.items c.push.ensures.items c.signal.ensures;
}
