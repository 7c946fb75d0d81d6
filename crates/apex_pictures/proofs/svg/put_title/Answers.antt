-- The parts are those of the text.
use Rattle.apex_pictures.specs.Svg.{title_text}
use Rattle.apex_pictures.proofs.svg.put_title.Goals as goal

pub returns : goal.returns
unfolding title_text
returns c = rw c.from.ensures at c.put_all.ensures
