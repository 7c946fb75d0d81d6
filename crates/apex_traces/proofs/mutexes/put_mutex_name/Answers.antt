-- The parts are those of the text.
use Rattle.apex_traces.specs.Trace.{mutex_name_text}
use Rattle.apex_traces.proofs.mutexes.put_mutex_name.Goals as goal

pub returns : goal.returns
unfolding mutex_name_text
returns c = rw (c.id_part.ensures, c.id_part-2.ensures, c.id_part-3.ensures, c.mutex_name.ensures.value) at c.put_all.ensures
