-- The parts are those of the text.
use Rattle.apex_pictures.specs.Looks.{meanings_text}
use Rattle.apex_pictures.proofs.looks.put_meanings.Goals as goal

pub returns : goal.returns
unfolding meanings_text
returns c = c.put_all.ensures
