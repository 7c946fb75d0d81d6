-- What the answer of the search says.
use Rattle.apex_answers.specs.Answers.{full, none}
use Rattle.apex_answers.proofs.answers.answer_of.Goals as goal

pub answer_for-requires-clause-path : goal.answer_for-requires-clause-path
answer_for-requires-clause-path g c = rw c.as_slice.ensures.value (rw c.in-Found.is at c.in_ok-path.ensures)

pub returns-in-Found : goal.returns-in-Found
returns-in-Found g c = c.answer_for.ensures c.args.room

pub returns-in-Closed : goal.returns-in-Closed
returns-in-Closed g c = none _ (rw c.in-Closed.is at c.in_ok-path.ensures)

pub returns-in-Full : goal.returns-in-Full
returns-in-Full g c =
    let says = rw c.in-Full.is at c.in_ok-path.ensures in
    full _ says.0 says.1
