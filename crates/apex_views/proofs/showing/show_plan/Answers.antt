-- How the drawing of a plan ends.
use Rattle.std.proofs.Common.{◌∙◌, ap, sym, None, Option}
use Rattle.std.proofs.lemmas.Result.{err_from_is_err_and}
use Rattle.apex_console.specs.declared.CliFault.{CliFault}
use Rattle.apex_views.specs.Plans.{excerpt_shown, machine_of}
use Rattle.apex_views.specs.Shows.{end_of, end_of_part}
use Rattle.apex_showings.specs.Showings.{drawn}
use Rattle.apex_views.proofs.Endings.{excerpt_is}
use Rattle.apex_views.proofs.showing.show_plan.Goals as goal

pub returns-in_err-show : goal.returns-in_err-show
returns-in_err-show g c = λ picture styled.
    let p = err_from_is_err_and c.from_residual.result c.from_residual.ensures.1 in
    let (fault, shows_view, same) = c.in_err-show.ensures picture None styled in
    let part = excerpt_shown (drawn picture) (machine_of c.args.plan).history in
    rw (p.1, p.2) (fault, shows_view, ap (λ (f : Option CliFault). end_of part f) same)

pub returns : goal.returns
returns g c = λ picture styled.
    let (fault, shows_view, same) = c.in_ok-show.ensures picture None styled in
    let history = (machine_of c.args.plan).history in
    let part = excerpt_shown (drawn picture) history in
    let part_is = c.part-part.ensures ∙ sym (excerpt_is picture c.args.plan.table history c.args.plan.style styled) in
    (fault, shows_view, c.shown_in.ensures ∙ ap end_of_part part_is ∙ ap (λ (f : Option CliFault). end_of part f) same)
