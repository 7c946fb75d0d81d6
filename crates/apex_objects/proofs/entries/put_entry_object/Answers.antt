-- The parts are put one behind the other.
use Rattle.std.proofs.Common.{append_assoc, refl}
use Rattle.apex_objects.proofs.entries.put_entry_object.Goals as goal

pub returns-clause-text : goal.returns-clause-text
returns-clause-text c =
    rw (c.put-2.ensures.text, c.put_array.ensures.text, c.put.ensures.text, c.put_texts.ensures.text, c.put_front.ensures.text, ← c.entry.view_is)
    (simp append_assoc refl)
