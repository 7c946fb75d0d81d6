-- The parts are those of the text.
use Rattle.apex_pictures.specs.Svg.{opening_text}
use Rattle.apex_pictures.proofs.borders.put_opening.Goals as goal

pub returns : goal.returns
unfolding opening_text
returns c = rw c.from.ensures at c.put_all.ensures
