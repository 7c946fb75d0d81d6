-- The parts are those of the text.
use Rattle.apex_traces.specs.Trace.{process_name_text}
use Rattle.apex_traces.proofs.trace.put_process_name.Goals as goal

pub returns : goal.returns
unfolding process_name_text
returns c = rw (c.id_part.ensures, c.id_part-2.ensures, c.id_part-3.ensures, c.process_name.ensures.value) at c.put_all.ensures
