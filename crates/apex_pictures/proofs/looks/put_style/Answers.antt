-- The parts are those of the text.
use Rattle.apex_pictures.specs.Looks.{style_text}
use Rattle.apex_pictures.proofs.looks.put_style.Goals as goal

pub returns : goal.returns
unfolding style_text
returns c = c.put_all.ensures
