-- The parts are those of the text.
use Rattle.apex_pictures.specs.Svg.{white_text}
use Rattle.apex_pictures.proofs.borders.put_white.Goals as goal

pub returns : goal.returns
unfolding white_text
returns c = rw c.from.ensures at c.put_all.ensures
