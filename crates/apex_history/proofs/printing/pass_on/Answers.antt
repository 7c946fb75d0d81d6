-- The bytes that go out of the page are a prefix of its text and the lines.
use Rattle.apex_history.proofs.Passing.{beginning_longer, passes_with}
use Rattle.apex_history.proofs.Outcomes.{OnErr-always}
use Rattle.apex_history.proofs.printing.pass_on.Goals as goal

pub returns-clause-ok : goal.returns-clause-ok
returns-clause-ok g c = rw (c.put.ensures.text, c.as_slice.ensures.value) (passes_with _ _ _ _ _ c.in_ok-make_room.ensures.ok)

pub returns-in_err-make_room-clause-err : goal.returns-in_err-make_room-clause-err
returns-in_err-make_room-clause-err g c =
    OnErr-always c.from_residual.result (beginning_longer _ _ _ _ c.in_err-make_room.ensures.err)
