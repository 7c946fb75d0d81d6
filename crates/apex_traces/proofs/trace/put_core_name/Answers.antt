-- The parts are those of the text.
use Rattle.apex_traces.specs.Trace.{core_name_text}
use Rattle.apex_traces.proofs.trace.put_core_name.Goals as goal

pub returns : goal.returns
unfolding core_name_text
returns c = rw (c.from.ensures, c.number.ensures.value, c.from-2.ensures, c.number-2.ensures.value, c.from-3.ensures, c.number-3.ensures.value, c.from-4.ensures, c.number-4.ensures.value) at c.put_all.ensures
