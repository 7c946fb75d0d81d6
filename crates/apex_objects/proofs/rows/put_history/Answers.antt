-- The parts are put one behind the other.
use Rattle.std.proofs.Common.{append_assoc, refl}
use Rattle.apex_objects.proofs.rows.put_history.Goals as goal

pub returns-clause-text : goal.returns-clause-text
returns-clause-text c = rw (c.put-2.ensures.text, c.put_number.ensures.text, c.put.ensures.text) (simp append_assoc refl)
