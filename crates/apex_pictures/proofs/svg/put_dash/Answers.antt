-- The parts are those of the text.
use Rattle.apex_pictures.specs.Svg.{dash_text}
use Rattle.apex_pictures.proofs.svg.put_dash.Goals as goal

pub returns : goal.returns
unfolding dash_text
returns c = rw (c.notice_word.ensures, c.row.ensures.value, c.row-2.ensures.value, c.notice_process.ensures) at c.put_all.ensures
