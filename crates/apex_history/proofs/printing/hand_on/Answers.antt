-- The lines that the page was handed go out with it.
use Rattle.std.proofs.lemmas.Result.{on_err_weaker, on_ok_weaker}
use Rattle.apex_history.proofs.Passing.{beginning_after, passes_all}
use Rattle.apex_history.proofs.printing.hand_on.Goals as goal

pub returns-clause-ok : goal.returns-clause-ok
returns-clause-ok g c = on_ok_weaker c.hand_on.result (passes_all _ _ _ _ _ c.in_ok-pass_on.ensures.ok) c.hand_on.ensures.ok

pub returns-clause-err : goal.returns-clause-err
returns-clause-err g c = on_err_weaker c.hand_on.result (beginning_after _ _ _ _ _ c.in_ok-pass_on.ensures.ok) c.hand_on.ensures.err
