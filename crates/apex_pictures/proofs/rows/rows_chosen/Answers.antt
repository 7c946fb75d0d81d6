-- The next one is put behind those so far.
use Rattle.std.proofs.Common.{◌∙◌, ◌+◌, ap}
use Rattle.std.specs.Prelude.{option_map}
use Rattle.apex_pictures.specs.Rows.{is_chosen}
use Rattle.apex_moments.proofs.Places.{place_next}
use Rattle.apex_pictures.proofs.rows.rows_chosen.Goals as goal

pub loop-place-preserved : goal.loop-place-preserved
loop-place-preserved c = record {
  end = c.loop-place.invariant.end;
  many = c.push.ensures.len ∙ ap (λ n. n + 1) c.loop-place.invariant.many;
  items = place_next (is_chosen (option_map (λ list. list.now) c.args.only)) c.loop-place.place _ _ _ c.loop-place.invariant.items
      c.push.ensures.items (rw c.at.ensures at c.is_chosen.ensures);
}
