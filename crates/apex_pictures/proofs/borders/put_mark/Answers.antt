-- The parts are those of the text.
use Rattle.apex_pictures.specs.Svg.{mark_text}
use Rattle.apex_pictures.proofs.borders.put_mark.Goals as goal

pub returns : goal.returns
unfolding mark_text
returns c =
    rw (c.behind.ensures, c.from.ensures, c.from-2.ensures, c.from-3.ensures, c.from-4.ensures, c.as_slice.ensures.value, c.as_slice-2.ensures.value) at c.put_all.ensures
