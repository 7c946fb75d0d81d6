-- The parts are put one behind the other.
use Rattle.std.proofs.Common.{append_assoc, refl}
use Rattle.apex_objects.proofs.elements.ProcessIdElement.put_element.Goals as goal

pub returns-clause-text : goal.returns-clause-text
returns-clause-text c = rw (c.put.ensures.text, c.put_thing.ensures.text, c.process_name-name.ensures.value) (simp append_assoc refl)
