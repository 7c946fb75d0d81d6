-- The entry comes behind the schedule.
use Rattle.std.proofs.KnownBytes.{Appends-trans}
use Rattle.std.proofs.lemmas.Result.{on_err_weaker, on_ok_weaker}
use Rattle.apex_history.proofs.Outcomes.{OnErr-always}
use Rattle.apex_history.proofs.Passing.{beginning_behind, beginning_longer}
use Rattle.apex_printouts.proofs.answers.write_made.Goals as goal

pub returns-in_err-print_schedule-clause-err : goal.returns-in_err-print_schedule-clause-err
returns-in_err-print_schedule-clause-err g c =
    OnErr-always c.from_residual.result (beginning_longer _ _ _ _ c.in_err-print_schedule.ensures.err)

pub returns-clause-ok : goal.returns-clause-ok
returns-clause-ok g c =
    on_ok_weaker c.write_entry.result (Appends-trans _ _ _ _ _ c.in_ok-print_schedule.ensures.ok) c.write_entry.ensures.ok

pub returns-clause-err : goal.returns-clause-err
returns-clause-err g c =
    on_err_weaker c.write_entry.result (beginning_behind _ _ _ _ _ c.in_ok-print_schedule.ensures.ok) c.write_entry.ensures.err
