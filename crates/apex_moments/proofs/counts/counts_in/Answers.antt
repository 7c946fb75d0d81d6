-- The next one is put behind those so far.
use Rattle.std.proofs.Common.{◌∙◌, ◌+◌, ap}
use Rattle.apex_moments.specs.Counts.{count_of}
use Rattle.apex_moments.proofs.Places.{place_next}
use Rattle.apex_moments.proofs.counts.counts_in.Goals as goal

pub loop-place-preserved : goal.loop-place-preserved
loop-place-preserved c = record {
  end = c.loop-place.invariant.end;
  many = c.push.ensures.len ∙ ap (λ n. n + 1) c.loop-place.invariant.many;
  items = place_next (count_of c.args.objects.now c.args.kind) c.loop-place.place _ _ _ c.loop-place.invariant.items c.push.ensures.items
      c.count_of.ensures;
}
