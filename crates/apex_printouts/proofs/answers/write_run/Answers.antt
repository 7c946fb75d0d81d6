-- The schedule and the entry come behind the word.
use Rattle.std.proofs.KnownBytes.{Appends-trans}
use Rattle.std.proofs.lemmas.Result.{on_err_weaker, on_ok_weaker}
use Rattle.apex_history.proofs.Outcomes.{OnErr-always}
use Rattle.apex_history.proofs.Passing.{beginning_behind, beginning_longer}
use Rattle.apex_printouts.proofs.answers.write_run.Goals as goal

pub returns-in_err-write_all-clause-err : goal.returns-in_err-write_all-clause-err
returns-in_err-write_all-clause-err g c =
    OnErr-always c.from_residual.result (beginning_longer _ _ _ _ c.in_err-write_all.ensures.beginning)

pub returns-clause-ok : goal.returns-clause-ok
returns-clause-ok g c =
    on_ok_weaker c.write_made.result (Appends-trans _ _ _ _ _ c.in_ok-write_all.ensures.bytes) c.write_made.ensures.ok

pub returns-clause-err : goal.returns-clause-err
returns-clause-err g c =
    on_err_weaker c.write_made.result (beginning_behind _ _ _ _ _ c.in_ok-write_all.ensures.bytes) c.write_made.ensures.err
