-- How the showing of a run ends, by how it is shown.
use Rattle.std.proofs.Common.{◌≡◌, ap, refl, None, Option}
use Rattle.std.proofs.KnownBytes.{Keeps-refl}
use Rattle.std.proofs.lemmas.Result.{err_from_is_err_and}
use Rattle.apex_console.specs.declared.CliFault.{CliFault}
use Rattle.apex_views.specs.Plans.{machine_of}
use Rattle.apex_showings.specs.Showings.{drawn, listed}
use Rattle.apex_views.specs.Shows.{IsEmptyIn, IsLackingIn, IsPlanIn, empty, end_of, lacking}
use Rattle.apex_views.proofs.Endings.{ends_shown}
use Rattle.apex_views.proofs.showing.show_whole.Goals as goal

pub show_plan-requires : goal.show_plan-requires
show_plan-requires g c =
    let (view, asked) = c.requires in
    let planned : IsPlanIn view None c.in-Picture.plan = rw c.in-Picture.is at asked in
    planned.planned.within

pub returns-in-Picture : goal.returns-in-Picture
returns-in-Picture g c = λ view asked.
    let plan = c.in-Picture.plan in
    let planned : IsPlanIn view None plan = rw c.in-Picture.is at asked in
    let (fault, shows_view, same) = c.show_plan.ensures planned.picture planned.planned.style in
    rw c.in-Picture.is (ends_shown (drawn planned.picture) view plan.table (machine_of plan) fault plan.fault _ planned.is same shows_view)

pub returns-in_err-list-in-Listing : goal.returns-in_err-list-in-Listing
returns-in_err-list-in-Listing g c = λ view asked.
    let p = err_from_is_err_and c.from_residual.result c.from_residual.ensures.1 in
    let run = c.in-Listing.run' in
    let seen : view ≡ listed c.in-Listing.listing = rw c.in-Listing.is at asked in
    let (fault, shows_view, same) = c.in_err-list-in-Listing.ensures in
    rw (c.in-Listing.is, p.1, p.2) (ends_shown (listed c.in-Listing.listing) view run.kernel.table run.kernel.machine fault run.fault _ seen
    (ap (λ (f : Option CliFault). end_of None f) same) shows_view)

pub returns-in-Listing : goal.returns-in-Listing
returns-in-Listing g c = λ view asked.
    let run = c.in-Listing.run' in
    let seen : view ≡ listed c.in-Listing.listing = rw c.in-Listing.is at asked in
    let (fault, shows_view, same) = c.in_ok-list-in-Listing.ensures in
    rw c.in-Listing.is (ends_shown (listed c.in-Listing.listing) view run.kernel.table run.kernel.machine fault run.fault _ seen
    (ap (λ (f : Option CliFault). end_of None f) same) shows_view)

pub returns-in-Empty : goal.returns-in-Empty
returns-in-Empty g c = λ view asked.
    let run = c.in-Empty.run' in
    let nowhere : IsEmptyIn view c.in-Empty.window c.in-Empty.fold run.kernel.machine.history = rw c.in-Empty.is at asked in
    rw (c.in-Empty.is, c.empty_in.ensures)
    (empty run.kernel.table run.kernel.machine run.fault c.in-Empty.window c.in-Empty.fold nowhere (Keeps-refl _))

pub returns : goal.returns
returns g c = λ view asked.
    let run = c.in-Lacking.field-1 in
    let missing : IsLackingIn view run.kernel.table c.in-Lacking.name = rw c.in-Lacking.is at asked in
    rw c.in-Lacking.is (lacking run.kernel.table c.in-Lacking.name refl missing (Keeps-refl _))
