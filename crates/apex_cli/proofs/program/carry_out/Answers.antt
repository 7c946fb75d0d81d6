use Rattle.std.proofs.Common.{◌∙◌, ap, refl, Err, None, Some}
use Rattle.std.proofs.KnownBytes.{Keeps-refl}
use Rattle.std.proofs.lemmas.Result.{err_from_is_err_and}
use Rattle.apex_cli.specs.declared.tasks.Task.{Task}
use Rattle.apex_cli.specs.Exits.{checked}
use Rattle.apex_cli.specs.Requests.{task_said}
use Rattle.apex_cli.proofs.Endings.{ends_ran, ends_reported, ends_unasked}
use Rattle.apex_cli.proofs.program.carry_out.Goals as goal

pub returns-in_err-report : goal.returns-in_err-report
returns-in_err-report g c =
    let p = err_from_is_err_and c.from_residual.result c.from_residual.ensures.1 in
    rw (p.1, p.2) (ends_unasked c.in_err-report.field-0.0 c.in_err-report.ensures.faults
    (λ e. c.in_err-report.ensures.usage (ap Err e)) (Keeps-refl _) (Keeps-refl _) (refl, refl))

pub returns-in_err-report_run-in-Report : goal.returns-in_err-report_run-in-Report
returns-in_err-report_run-in-Report g c =
    let p = err_from_is_err_and c.from_residual-in_err-report_run-in-Report.result
    c.from_residual-in_err-report_run-in-Report.ensures.1 in
    let asked = c.in_ok-report.ensures.ok ∙ ap (λ (task : Task). Some (task_said task)) c.in-Report.is in
    rw (p.1, p.2) (ends_reported c.in-Report.items.items c.as_slice.result.now _ asked c.as_slice.ensures.value
    c.in_err-report_run-in-Report.ensures)

pub returns-in_ok-report_run-in-Report : goal.returns-in_ok-report_run-in-Report
returns-in_ok-report_run-in-Report g c =
    let asked = c.in_ok-report.ensures.ok ∙ ap (λ (task : Task). Some (task_said task)) c.in-Report.is in
    ends_reported c.in-Report.items.items c.as_slice.result.now None asked c.as_slice.ensures.value
    c.in_ok-report_run-in-Report.ensures

pub returns-in-Ok-Legal : goal.returns-in-Ok-Legal
returns-in-Ok-Legal g c =
    let asked = c.in_ok-report.ensures.ok ∙ ap (λ (task : Task). Some (task_said task)) c.in-Check.is in
    checked asked (rw c.in-Ok-Legal.field-0-is at c.in-Ok-Legal.ensures.ends) (rw c.in-Ok-Legal.field-0-is at c.in-Ok-Legal.ensures.legal)

pub returns-in-Ok-DepartsAt : goal.returns-in-Ok-DepartsAt
returns-in-Ok-DepartsAt g c =
    let asked = c.in_ok-report.ensures.ok ∙ ap (λ (task : Task). Some (task_said task)) c.in-Check.is in
    checked asked (rw c.in-Ok-DepartsAt.field-0-is at c.in-Ok-DepartsAt.ensures.ends) (rw c.in-Ok-DepartsAt.field-0-is at c.in-Ok-DepartsAt.ensures.legal)

pub returns-in-Err : goal.returns-in-Err
returns-in-Err g c =
    let asked = c.in_ok-report.ensures.ok ∙ ap (λ (task : Task). Some (task_said task)) c.in-Check.is in
    rw c.from.ensures (checked asked c.in-Err.ensures.ends c.in-Err.ensures.legal)

pub returns-in_err-run_threads-in-Run : goal.returns-in_err-run_threads-in-Run
returns-in_err-run_threads-in-Run g c =
    let p = err_from_is_err_and c.from_residual-in_err-run_threads-in-Run.result
    c.from_residual-in_err-run_threads-in-Run.ensures.1 in
    let asked = c.in_ok-report.ensures.ok ∙ ap (λ (task : Task). Some (task_said task)) c.in-Run.is in
    rw (p.1, p.2) (ends_ran _ asked c.in_err-run_threads-in-Run.ensures)

pub returns-in_ok-run_threads-in-Run : goal.returns-in_ok-run_threads-in-Run
returns-in_ok-run_threads-in-Run g c =
    let asked = c.in_ok-report.ensures.ok ∙ ap (λ (task : Task). Some (task_said task)) c.in-Run.is in
    ends_ran None asked c.in_ok-run_threads-in-Run.ensures
