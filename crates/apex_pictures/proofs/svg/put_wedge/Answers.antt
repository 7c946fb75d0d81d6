-- The parts are those of the text.
use Rattle.apex_pictures.specs.Svg.{wedge_text}
use Rattle.apex_pictures.proofs.svg.put_wedge.Goals as goal

pub returns : goal.returns
unfolding wedge_text
returns c = rw (c.notice_word.ensures, c.id_part.ensures, c.corner_of.ensures, c.row.ensures.value, c.outline_of.ensures, c.notice_word-2.ensures, c.id_part-2.ensures, c.notice_process-process.ensures) at c.put_all.ensures
