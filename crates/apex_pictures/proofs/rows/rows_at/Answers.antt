-- The next one is put behind those so far.
use Rattle.std.proofs.Common.{◌∙◌, ◌+◌, ap}
use Rattle.apex_pictures.specs.Rows.{row_at}
use Rattle.apex_moments.proofs.Places.{place_next}
use Rattle.apex_pictures.proofs.rows.rows_at.Goals as goal

pub loop-place-preserved : goal.loop-place-preserved
loop-place-preserved c = record {
  end = c.loop-place.invariant.end;
  many = c.push.ensures.len ∙ ap (λ n. n + 1) c.loop-place.invariant.many;
  items = place_next (row_at c.args.cores.now c.args.top) c.loop-place.place _ _ _ c.loop-place.invariant.items c.push.ensures.items
      c.row_at.ensures;
}
