-- The parts are those of the text.
use Rattle.apex_traces.specs.Trace.{opening_text}
use Rattle.apex_traces.proofs.trace.put_opening.Goals as goal

pub returns : goal.returns
unfolding opening_text
returns c = rw (c.profile_number.ensures, c.profile.ensures) at c.put_all.ensures
