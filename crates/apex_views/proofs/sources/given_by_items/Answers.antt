-- A trace is drawn of the events that the items list.
use Rattle.std.proofs.Common.{◌≡◌, inl, refl}
use Rattle.std.proofs.lemmas.Result.{err_from_is_err_and}
use Rattle.apex_views.proofs.Listed.{list_answer}
use Rattle.apex_showings.specs.Showings.{trace}
use Rattle.apex_showings.specs.declared.Picture.TheVariants.{Trace}
use Rattle.apex_views.proofs.sources.given_by_items.Goals as goal

pub returns-in-Picture-Trace-clause-ok : goal.returns-in-Picture-Trace-clause-ok
returns-in-Picture-Trace-clause-ok c =
    let plan = c.in_ok-plan.plan in (
      refl,
      rw c.in_ok-plan.ensures.table (list_answer c.args.items.now c.args.text.now c.in_ok-table.table plan.events.items plan.fault
          c.in_ok-table.ensures.table c.in_ok-table.ensures.below c.in_ok-plan.ensures.run),
    )

pub returns-in_err-plan-clause-err : goal.returns-in_err-plan-clause-err
returns-in_err-plan-clause-err c =
    let p = err_from_is_err_and c.from_residual-in_err-plan.result c.from_residual-in_err-plan.ensures.1 in
    rw (p.1, p.2) (inl refl)

pub returns-in-Picture-Trace-clause-view : goal.returns-in-Picture-Trace-clause-view
returns-in-Picture-Trace-clause-view c =
    let plan = c.in_ok-plan.plan in
    let same : c.in-Picture-Trace.field-0 ≡ Trace c.in-Picture-Trace.tick = rw c.in-Picture-Trace.is at c.in-Picture-Trace.field-0-is in
    rw (c.in-Picture-Trace.is, same) (record {
      picture = trace c.in-Picture-Trace.tick;
      is = refl;
      planned = record { within = rw c.in_ok-plan.ensures.table c.in_ok-plan.ensures.run.within; style = rw c.in_ok-plan.ensures.style refl };
    })
