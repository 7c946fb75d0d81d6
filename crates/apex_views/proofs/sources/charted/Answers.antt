-- The frame is for the window, or no entry in it has a column.
use Rattle.std.proofs.Common.{refl}
use Rattle.std.specs.Prelude.{option_map}
use Rattle.apex_views.specs.Departures.{departure_said}
use Rattle.apex_showings.specs.Showings.{chart_said, svg}
use Rattle.apex_views.proofs.sources.charted.Goals as goal

pub returns-in-Some-clause-view : goal.returns-in-Some-clause-view
returns-in-Some-clause-view c =
    c.planned.ensures.view (svg (chart_said c.args.chart.now)) (option_map departure_said c.args.departure.now) (rw c.in-Some.is at c.in_ok-found.ensures)

pub returns-in-None-clause-view : goal.returns-in-None-clause-view
returns-in-None-clause-view c = record {
  chart = chart_said c.args.chart.now;
  is = refl;
  window_is = refl;
  fold_is = refl;
  none = rw c.in-None.is at c.in_ok-found.ensures;
}
