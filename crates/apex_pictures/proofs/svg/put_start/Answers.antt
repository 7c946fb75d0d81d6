-- The parts are those of the text.
use Rattle.apex_pictures.specs.Svg.{start_text}
use Rattle.apex_pictures.proofs.svg.put_start.Goals as goal

pub returns : goal.returns
unfolding start_text
returns c = rw (c.from.ensures, c.place.ensures, c.from-2.ensures, c.from-3.ensures) at c.put_all.ensures
