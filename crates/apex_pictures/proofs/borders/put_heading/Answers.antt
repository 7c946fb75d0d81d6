-- The parts are those of the text.
use Rattle.apex_pictures.specs.Svg.{heading_text}
use Rattle.apex_pictures.proofs.borders.put_heading.Goals as goal

pub returns : goal.returns
unfolding heading_text
returns c = rw (c.heading.ensures.value, c.from.ensures, c.number.ensures.value) at c.put_all.ensures
