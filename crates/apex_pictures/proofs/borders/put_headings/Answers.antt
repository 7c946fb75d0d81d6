-- The next text follows those before it.
use Rattle.apex_pictures.specs.Svg.{heading_text}
use Rattle.apex_moments.proofs.Places.{text_next}
use Rattle.apex_pictures.proofs.borders.put_headings.Goals as goal

pub loop-core-preserved : goal.loop-core-preserved
loop-core-preserved c = record {
  many = c.loop-core.invariant.many;
  text = text_next (heading_text c.args.frame.now) c.loop-core.core _ _ _ c.loop-core.invariant.text
      (rw c.new.ensures at c.in_ok-put_heading.ensures);
}
