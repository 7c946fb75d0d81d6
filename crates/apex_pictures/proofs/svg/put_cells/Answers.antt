-- The next text follows those before it.
use Rattle.apex_pictures.specs.Svg.{cell_at}
use Rattle.apex_moments.proofs.Places.{text_next}
use Rattle.apex_pictures.proofs.svg.put_cells.Goals as goal

pub loop-place-preserved : goal.loop-place-preserved
loop-place-preserved c = record {
  many = c.loop-place.invariant.many;
  text = text_next (cell_at c.args.table.now c.args.frame.now c.args.width c.args.moment.now) c.loop-place.place _ _ _ c.loop-place.invariant.text
      (rw c.at.ensures at c.in_ok-put_cell_at.ensures);
}
