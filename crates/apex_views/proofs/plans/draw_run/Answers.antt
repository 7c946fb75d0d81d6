-- Without memory for a situation nothing is drawn; or else how the drawing ends.
use Rattle.std.proofs.Common.{refl}
use Rattle.std.proofs.KnownBytes.{Keeps-refl}
use Rattle.std.proofs.lemmas.Result.{err_from_is_err_and}
use Rattle.apex_views.specs.Shows.{unbegun}
use Rattle.apex_views.proofs.Endings.{pictures_failed, shows_whole}
use Rattle.apex_views.proofs.plans.draw_run.Goals as goal

pub returns-in_err-store : goal.returns-in_err-store
returns-in_err-store g c = λ picture departure styled.
    let p = err_from_is_err_and c.from_residual.result c.from_residual.ensures.1 in
    rw (p.1, p.2) (unbegun (Keeps-refl _))

pub returns-in_err-situation : goal.returns-in_err-situation
returns-in_err-situation g c = λ picture departure styled.
    let p = err_from_is_err_and c.from_residual-in_err-situation.result c.from_residual-in_err-situation.ensures.1 in
    rw (p.1, p.2) (unbegun (Keeps-refl _))

pub returns-in-Ok : goal.returns-in-Ok
returns-in-Ok g c = λ picture departure styled.
    shows_whole (_, (c.args.style.now, styled, refl), c.in-Ok.ensures.ok) c.in-Ok.ensures.counted

pub returns-in-Err : goal.returns-in-Err
returns-in-Err g c = λ picture departure styled.
    rw c.fault_of.ensures (pictures_failed c.in-Err.fault (_, (c.args.style.now, styled, refl), c.in-Err.ensures.err)
    c.in-Err.ensures.counted)
