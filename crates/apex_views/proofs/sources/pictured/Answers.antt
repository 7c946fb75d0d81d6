-- A trace is of any history.
use Rattle.std.proofs.Common.{refl}
use Rattle.std.specs.Prelude.{option_map}
use Rattle.apex_views.specs.Departures.{departure_said}
use Rattle.apex_showings.specs.Showings.{trace}
use Rattle.apex_views.proofs.sources.pictured.Goals as goal

pub returns-in-Trace-clause-view : goal.returns-in-Trace-clause-view
returns-in-Trace-clause-view c = rw c.in-Trace.is (c.planned.ensures.view (trace c.in-Trace.tick) (option_map departure_said c.args.departure.now) refl)
