-- The parts are those of the text.
use Rattle.apex_pictures.specs.Svg.{key_opening}
use Rattle.apex_pictures.proofs.borders.put_key_opening.Goals as goal

pub returns : goal.returns
unfolding key_opening
returns c = rw c.from.ensures at c.put_all.ensures
