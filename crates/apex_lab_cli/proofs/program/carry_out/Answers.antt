-- How the program ends, by what it is asked to do.
use Rattle.std.proofs.Common.{refl}
use Rattle.std.proofs.KnownBytes.{Keeps-refl}
use Rattle.std.proofs.lemmas.Result.{err_from_is_err_and}
use Rattle.apex_lab_cli.specs.Exits.{of_check, of_dump, of_lint, of_search, of_showing, of_steps, of_why}
use Rattle.apex_lab_cli.proofs.Endings.{ends_unasked}
use Rattle.apex_lab_cli.proofs.program.carry_out.Goals as goal

pub returns-in_err-task : goal.returns-in_err-task
returns-in_err-task g c =
    let p = err_from_is_err_and c.from_residual.result c.from_residual.ensures.1 in
    rw (p.1, p.2) (ends_unasked c.in_err-task.field-0.0 c.in_err-task.ensures.err (Keeps-refl _) (Keeps-refl _) (refl, refl))

pub returns-in-Show : goal.returns-in-Show
returns-in-Show g c = rw c.ending_of.ensures (of_showing (rw c.in-Show.is at c.in_ok-task.ensures.ok) c.show_run.ensures)

pub returns-in-Search : goal.returns-in-Search
returns-in-Search g c = rw c.ending_of_search.ensures (of_search (rw c.in-Search.is at c.in_ok-task.ensures.ok) c.run_search.ensures)

pub returns-in-Lint : goal.returns-in-Lint
returns-in-Lint g c = of_lint (rw c.in-Lint.is at c.in_ok-task.ensures.ok) c.run_lint.ensures

pub returns-in-Step : goal.returns-in-Step
returns-in-Step g c = of_steps (rw c.in-Step.is at c.in_ok-task.ensures.ok) c.run_steps.ensures

pub returns-in-Check : goal.returns-in-Check
returns-in-Check g c = of_check (rw c.in-Check.is at c.in_ok-task.ensures.ok) c.run_check.ensures

pub returns-in-Why : goal.returns-in-Why
returns-in-Why g c = of_why (rw c.in-Why.is at c.in_ok-task.ensures.ok) c.run_why.ensures

pub returns-in-Dump : goal.returns-in-Dump
returns-in-Dump g c = of_dump (rw c.in-Dump.is at c.in_ok-task.ensures.ok) c.run_dump.ensures
