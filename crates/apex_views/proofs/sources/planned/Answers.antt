-- A picture is planned for the view.
use Rattle.std.proofs.Common.{refl}
use Rattle.apex_views.proofs.sources.planned.Goals as goal

pub returns-clause-view : goal.returns-clause-view
returns-clause-view c = λ picture departure styled. record {
  picture = picture;
  is = refl;
  planned = record {
    within = c.in_ok-plan.ensures.within;
    style = rw (c.in_ok-plan.ensures.style, c.in_ok-plan.ensures.machine, c.in_ok-plan.ensures.table) styled;
  };
}
