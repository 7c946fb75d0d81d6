-- The parts are those of the text.
use Rattle.apex_pictures.specs.Svg.{selection_text}
use Rattle.apex_pictures.proofs.borders.put_selection.Goals as goal

pub returns : goal.returns
unfolding selection_text
returns c = c.put_all.ensures
