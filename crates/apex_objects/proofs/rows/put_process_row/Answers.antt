-- The parts are put one behind the other.
use Rattle.std.proofs.Common.{append_assoc, refl}
use Rattle.apex_objects.proofs.rows.put_process_row.Goals as goal

pub returns : goal.returns
returns c =
    rw (c.put.ensures.text, c.put_held.ensures.text, c.put_instants.ensures.text, c.put_optional_wait.ensures.text, c.put_state.ensures.text, c.put_thing.ensures.text, c.process_name-name.ensures.value)
    (simp append_assoc refl)
