-- The parts are put one behind the other.
use Rattle.std.proofs.Common.{append_assoc, refl}
use Rattle.apex_objects.specs.Rows.{plain_wait}
use Rattle.apex_objects.proofs.waits.put_plain_wait.Goals as goal

pub returns-clause-text : goal.returns-clause-text
unfolding plain_wait
returns-clause-text c = rw (c.put-3.ensures.text, c.put-2.ensures.text, c.put.ensures.text) (simp append_assoc refl)
