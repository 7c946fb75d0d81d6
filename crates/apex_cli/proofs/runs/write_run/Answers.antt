-- The line of the front comes behind the lines of the history.
use Rattle.std.proofs.KnownBytes.{Appends-trans}
use Rattle.std.proofs.lemmas.Result.{on_err_weaker, on_ok_weaker}
use Rattle.apex_history.proofs.Outcomes.{OnErr-always}
use Rattle.apex_history.proofs.Passing.{beginning_behind, beginning_longer}
use Rattle.apex_cli.proofs.runs.write_run.Goals as goal

pub returns-in_err-print_history-clause-err : goal.returns-in_err-print_history-clause-err
returns-in_err-print_history-clause-err g c = rw (← c.table.ensures, ← c.entries.ensures)
    (OnErr-always c.from_residual.result (beginning_longer _ _ _ _ c.in_err-print_history.ensures.err))

pub returns-clause-ok : goal.returns-clause-ok
returns-clause-ok g c = rw (← c.table.ensures, ← c.entries.ensures)
    (on_ok_weaker c.write_front.result (Appends-trans _ _ _ _ _ c.in_ok-print_history.ensures.ok) c.write_front.ensures.ok)

pub returns-clause-err : goal.returns-clause-err
returns-clause-err g c = rw (← c.table.ensures, ← c.entries.ensures)
    (on_err_weaker c.write_front.result (beginning_behind _ _ _ _ _ c.in_ok-print_history.ensures.ok) c.write_front.ensures.err)
