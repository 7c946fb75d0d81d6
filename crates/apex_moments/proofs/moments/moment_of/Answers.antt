-- The next cell is put behind those so far.
use Rattle.std.proofs.Common.{◌∙◌, ◌+◌, ap}
use Rattle.apex_moments.specs.Moments.{cell_of}
use Rattle.apex_moments.proofs.Places.{place_next}
use Rattle.apex_moments.proofs.moments.moment_of.Goals as goal

pub loop-place-preserved : goal.loop-place-preserved
loop-place-preserved g c =
    let roster = g.S.Store.roster c.args.store.now in
    record {
      end = c.loop-place.invariant.end;
      many = c.push.ensures.len ∙ ap (λ n. n + 1) c.loop-place.invariant.many;
      running = c.loop-place.invariant.running;
      items = place_next (cell_of roster) c.loop-place.place _ _ _ c.loop-place.invariant.items c.push.ensures.items
          (rw c.at.ensures at c.cell_of.ensures);
    }
