-- The next text follows those before it.
use Rattle.apex_pictures.specs.Svg.{label_at}
use Rattle.apex_moments.proofs.Places.{text_next}
use Rattle.apex_pictures.proofs.borders.put_labels.Goals as goal

pub loop-place-preserved : goal.loop-place-preserved
loop-place-preserved c = record {
  many = c.loop-place.invariant.many;
  text = text_next (label_at c.args.table.now c.args.frame.now) c.loop-place.place _ _ _ c.loop-place.invariant.text
      (rw c.at.ensures at c.in_ok-put_label_at.ensures);
}
