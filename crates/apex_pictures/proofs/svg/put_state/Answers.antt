-- The parts are those of the text.
use Rattle.apex_pictures.specs.Svg.{cell_part}
use Rattle.apex_pictures.proofs.svg.put_state.Goals as goal

pub returns : goal.returns
unfolding cell_part
returns c = rw (c.state_word.ensures.value, c.id_part.ensures, c.row.ensures.value, c.id_part-2.ensures, c.process_name.ensures.value, c.state_word-2.ensures.value) at c.put_all.ensures
