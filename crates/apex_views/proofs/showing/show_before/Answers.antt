-- How the showing of a run up to a departure ends, by how it is shown.
use Rattle.std.proofs.Common.{◌≡◌, refl, None, Some}
use Rattle.std.proofs.KnownBytes.{Keeps-refl}
use Rattle.std.proofs.lemmas.Result.{err_from_is_err_and}
use Rattle.apex_views.specs.Departures.{departure_said}
use Rattle.apex_views.specs.Plans.{machine_of}
use Rattle.apex_showings.specs.Showings.{listed}
use Rattle.apex_views.specs.Shows.{IsEmptyIn, IsLackingIn, IsPlanIn, lacking, unshown}
use Rattle.apex_views.proofs.Endings.{ends_before}
use Rattle.apex_views.proofs.showing.show_before.Goals as goal

pub draw_plan-requires : goal.draw_plan-requires
draw_plan-requires g c =
    let (view, asked) = c.requires in
    let planned : IsPlanIn view (Some (departure_said c.args.departure)) c.in-Picture.plan = rw c.in-Picture.is at asked in
    planned.planned.within

pub returns-in_err-draw_plan-in-Picture : goal.returns-in_err-draw_plan-in-Picture
returns-in_err-draw_plan-in-Picture g c = λ view asked.
    let p = err_from_is_err_and c.from_residual.result c.from_residual.ensures.1 in
    let plan = c.in-Picture.plan in
    let departure = departure_said c.args.departure in
    let planned : IsPlanIn view (Some departure) plan = rw c.in-Picture.is at asked in
    let shows_view = c.in_err-draw_plan-in-Picture.ensures planned.picture (Some departure) planned.planned.style in
    rw (c.in-Picture.is, p.1, p.2) (ends_before view planned.picture plan.table (machine_of plan) departure _ _ planned.is refl shows_view)

pub returns-in-Picture : goal.returns-in-Picture
returns-in-Picture g c = λ view asked.
    let plan = c.in-Picture.plan in
    let departure = departure_said c.args.departure in
    let planned : IsPlanIn view (Some departure) plan = rw c.in-Picture.is at asked in
    let shows_view = c.in_ok-draw_plan-in-Picture.ensures planned.picture (Some departure) planned.planned.style in
    rw c.in-Picture.is (ends_before view planned.picture plan.table (machine_of plan) departure None _ planned.is refl shows_view)

pub returns-in-Listing : goal.returns-in-Listing
returns-in-Listing g c = λ view asked.
    let seen : view ≡ listed c.in-Listing.field-0 = rw c.in-Listing.is at asked in
    rw (c.in-Listing.is, seen) (unshown _ _ (departure_said c.args.departure) tt (Keeps-refl _))

pub returns-in-Empty : goal.returns-in-Empty
returns-in-Empty g c = λ view asked.
    let run = c.in-Empty.field-2 in
    let nowhere : IsEmptyIn view c.in-Empty.field-0 c.in-Empty.field-1 run.kernel.machine.history = rw c.in-Empty.is at asked in
    rw (c.in-Empty.is, nowhere.is) (unshown run.kernel.table run.kernel.machine (departure_said c.args.departure) nowhere.none (Keeps-refl _))

pub returns : goal.returns
returns g c = λ view asked.
    let run = c.in-Lacking.field-1 in
    let missing : IsLackingIn view run.kernel.table c.in-Lacking.name = rw c.in-Lacking.is at asked in
    rw c.in-Lacking.is (lacking run.kernel.table c.in-Lacking.name refl missing (Keeps-refl _))
