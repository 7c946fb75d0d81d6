-- The parts are put one behind the other.
use Rattle.std.proofs.Common.{append_assoc, refl}
use Rattle.apex_objects.proofs.rows.put_blackboard.Goals as goal

pub returns : goal.returns
returns c =
    rw (c.put_waiting.ensures.text, c.put_optional_message.ensures.text, c.put.ensures.text, c.put_thing.ensures.text, c.blackboard_name-name.ensures.value)
    (simp append_assoc refl)
