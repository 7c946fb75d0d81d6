-- How the showing of a run ends, by what its source gives.
use Rattle.std.proofs.Common.{None, Some}
use Rattle.std.proofs.KnownBytes.{Keeps-refl}
use Rattle.std.proofs.lemmas.Result.{err_from_is_err_and}
use Rattle.apex_views.specs.Shows.{outcome_of_run, stopped}
use Rattle.apex_showings.specs.Showings.{showing_said}
use Rattle.apex_views.proofs.showing.show_run.Goals as goal

pub show_whole-requires : goal.show_whole-requires
show_whole-requires g c = ((showing_said c.args.showing.now).view, rw c.in-None.is at c.in_ok-given.ensures.view)

pub show_before-requires : goal.show_before-requires
show_before-requires g c = ((showing_said c.args.showing.now).view, rw c.in-Some.is at c.in_ok-given.ensures.view)

pub returns-in_err-given : goal.returns-in_err-given
returns-in_err-given g c =
    let p = err_from_is_err_and c.from_residual.result c.from_residual.ensures.1 in
    rw (p.1, p.2) (record { outcome = _; gives = c.in_err-given.ensures.gives; shows = stopped (Keeps-refl _) })

pub returns-in-None : goal.returns-in-None
returns-in-None g c = record {
  outcome = outcome_of_run None c.in_ok-given.given.made;
  gives = rw c.in-None.is at c.in_ok-given.ensures.gives;
  shows = c.show_whole.ensures (showing_said c.args.showing.now).view (rw c.in-None.is at c.in_ok-given.ensures.view);
}

pub returns-in-Some : goal.returns-in-Some
returns-in-Some g c = record {
  outcome = outcome_of_run (Some c.in-Some.departure) c.in_ok-given.given.made;
  gives = rw c.in-Some.is at c.in_ok-given.ensures.gives;
  shows = c.show_before.ensures (showing_said c.args.showing.now).view (rw c.in-Some.is at c.in_ok-given.ensures.view);
}
