-- The parts are put one behind the other.
use Rattle.std.proofs.Common.{append_assoc, refl}
use Rattle.apex_objects.proofs.elements.NoticeElement.put_element.Goals as goal

pub returns-in-Woken-clause-text : goal.returns-in-Woken-clause-text
returns-in-Woken-clause-text c =
    rw (c.in-Woken.is, c.put-in-Woken-3.ensures.text, c.put-in-Woken-2.ensures.text, c.code_word.ensures.value, c.put-in-Woken.ensures.text, c.put_noticed.ensures.text, c.put.ensures.text)
    (simp append_assoc refl)

pub returns-in-Released-clause-text : goal.returns-in-Released-clause-text
returns-in-Released-clause-text c =
    rw (c.in-Released.is, c.put-in-Released-2.ensures.text, c.put_noticed-in-Released.ensures.text, c.put-in-Released.ensures.text)
    (simp append_assoc refl)

pub returns-in-Missed-clause-text : goal.returns-in-Missed-clause-text
returns-in-Missed-clause-text c =
    rw (c.in-Missed.is, c.put-in-Missed-4.ensures.text, c.put-in-Missed-3.ensures.text, c.deadline_word.ensures.value, c.put-in-Missed-2.ensures.text, c.put_noticed-in-Missed.ensures.text, c.put-in-Missed.ensures.text)
    (simp append_assoc refl)
