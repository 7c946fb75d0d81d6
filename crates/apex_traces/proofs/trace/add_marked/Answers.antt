-- The second word of the mark is the code's.
use Rattle.apex_traces.proofs.trace.add_marked.Goals as goal

pub returns-in-Woken-clause-text : goal.returns-in-Woken-clause-text
returns-in-Woken-clause-text c = rw c.in-Woken.is (rw c.code_word.ensures.value at c.add_mark.ensures.text)
