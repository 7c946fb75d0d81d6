-- The parts are those of the text.
use Rattle.apex_pictures.specs.Looks.{end_text}
use Rattle.apex_pictures.proofs.looks.put_end.Goals as goal

pub returns : goal.returns
unfolding end_text
returns c = c.put_all.ensures
