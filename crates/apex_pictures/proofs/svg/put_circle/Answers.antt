-- The parts are those of the text.
use Rattle.apex_pictures.specs.Svg.{circle_text}
use Rattle.apex_pictures.proofs.svg.put_circle.Goals as goal

pub returns : goal.returns
unfolding circle_text
returns c = rw (c.id_part.ensures, c.row.ensures.value) at c.put_all.ensures
