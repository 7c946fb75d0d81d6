-- The machine is that before the departure.
use Rattle.std.proofs.Common.{◌∙◌}
use Rattle.apex_views.specs.Departures.{departure_said}
use Rattle.apex_views.proofs.Told.{parts_same, run_before}
use Rattle.apex_views.proofs.sources.given_before.Goals as goal

pub returns-clause-gives : goal.returns-clause-gives
returns-clause-gives c =
    let before = c.in_ok-kernel.kernel in
    run_before c.args.departure c.in_ok-made.made before.table before.machine c.in_ok-made.ensures.run
    ∙ parts_same _ before.table _ before.machine (departure_said c.args.departure) c.in_ok-kernel.ensures.table c.in_ok-kernel.ensures.machine
