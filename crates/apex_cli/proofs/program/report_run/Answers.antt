use Rattle.std.proofs.Common.{rules, ◌∙◌, ap, sym, refl, None, Some}
use Rattle.std.proofs.KnownBytes.{Keeps-refl}
use Rattle.std.proofs.lemmas.Result.{err_from_is_err_and}
use Rattle.apex_console.specs.Reports.{answer_of}
use Rattle.apex_cli.specs.Exits.{no_room}
use Rattle.apex_cli.proofs.Endings.{reports_refused, reports_unread, reports_unwritten, reports_written}
use Rattle.apex_cli.proofs.program.report_run.Goals as goal

pub returns-in_err-text : goal.returns-in_err-text
returns-in_err-text g c =
    let p = err_from_is_err_and c.from_residual.result c.from_residual.ensures.1 in
    rw (p.1, p.2) (reports_unread c.in_err-text.field-0.0
    c.in_err-text.ensures.counted refl (Keeps-refl _))

pub returns-in_err-page : goal.returns-in_err-page
returns-in_err-page g c =
    let p = err_from_is_err_and c.from_residual-in_err-page.result c.from_residual-in_err-page.ensures.1 in
    rw (p.1, p.2) (no_room (Keeps-refl _) (c.in_ok-text.ensures.counted, refl))

pub returns-in_err-ran : goal.returns-in_err-ran
returns-in_err-ran g c =
    let p = err_from_is_err_and c.from_residual-in_err-ran.result c.from_residual-in_err-ran.ensures.1 in
    rw (p.1, p.2) (reports_refused c.in_ok-text.text.items c.in_err-ran.field-0.0
    c.in_ok-text.ensures.bytes (search rules) (Keeps-refl _) (c.in_ok-text.ensures.counted, refl))

pub returns-in-None : goal.returns-in-None
returns-in-None g c =
    let answer = ap (answer_of c.args.items.now) (sym c.as_slice.ensures.value) ∙ c.in_ok-ran.ensures.ok in
    reports_written c.in_ok-text.text.items _ _ c.in_ok-ran.ran.fault c.in_ok-text.ensures.bytes answer
    None c.in-None.is
    c.in-Ok.ensures.ok (c.in_ok-text.ensures.counted, c.in-Ok.ensures.counted)

pub returns-in-Ok : goal.returns-in-Ok
returns-in-Ok g c =
    let answer = ap (answer_of c.args.items.now) (sym c.as_slice.ensures.value) ∙ c.in_ok-ran.ensures.ok in
    reports_written c.in_ok-text.text.items _ _ c.in_ok-ran.ran.fault c.in_ok-text.ensures.bytes answer
    (Some c.in-Some.fault) c.in-Some.is
    c.in-Ok.ensures.ok (c.in_ok-text.ensures.counted, c.in-Ok.ensures.counted)

pub returns : goal.returns
returns g c =
    let answer = ap (answer_of c.args.items.now) (sym c.as_slice.ensures.value) ∙ c.in_ok-ran.ensures.ok in
    reports_unwritten c.in_ok-text.text.items _ _ c.in_ok-ran.ran.fault c.in_ok-text.ensures.bytes answer
    c.in-Err.ensures.err (c.in_ok-text.ensures.counted, c.in-Err.ensures.counted)
