-- There is a departure behind the run, or there is none.
use Rattle.std.proofs.KnownBytes.{Keeps-refl}
use Rattle.apex_views.specs.Departures.{departure_said}
use Rattle.apex_lab_cli.specs.Whys.{ran, ran_before}
use Rattle.apex_lab_cli.proofs.whys.answer_given.Goals as goal

pub returns-in-None : goal.returns-in-None
returns-in-None g c = rw c.in-None.is (ran _ _ _ c.answer.ensures)

pub returns-in-Some : goal.returns-in-Some
returns-in-Some g c = rw c.in-Some.is (ran_before _ _ (departure_said c.in-Some.departure) (Keeps-refl _))
