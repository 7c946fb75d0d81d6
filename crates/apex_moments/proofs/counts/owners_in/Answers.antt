-- The next one is put behind those so far.
use Rattle.std.proofs.Common.{◌∙◌, ◌+◌, ap}
use Rattle.apex_machine.specs.processes.Owners.{owner}
use Rattle.apex_moments.proofs.Places.{place_next}
use Rattle.apex_moments.proofs.counts.owners_in.Goals as goal

pub loop-place-preserved : goal.loop-place-preserved
loop-place-preserved g c = record {
  end = c.loop-place.invariant.end;
  many = c.push.ensures.len ∙ ap (λ n. n + 1) c.loop-place.invariant.many;
  items = place_next (owner (g.S.Store.roster c.args.store.now)) c.loop-place.place _ _ _ c.loop-place.invariant.items c.push.ensures.items
      (rw c.at.ensures at c.owner.ensures.value);
}
