-- The parts are those of the text.
use Rattle.apex_pictures.specs.Svg.{label_text}
use Rattle.apex_pictures.proofs.borders.put_label.Goals as goal

pub returns : goal.returns
unfolding label_text
returns c = rw (c.row.ensures.value, c.id_part.ensures, c.process_name.ensures.value) at c.put_all.ensures
