-- The parts are those of the text.
use Rattle.apex_pictures.specs.Svg.{bar_text}
use Rattle.apex_pictures.proofs.svg.put_bar.Goals as goal

pub returns : goal.returns
unfolding bar_text
returns c = rw c.row.ensures.value at c.put_all.ensures
