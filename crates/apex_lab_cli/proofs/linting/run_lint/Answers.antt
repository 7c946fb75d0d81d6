-- How a lint ends, by what was at fault.
use Rattle.std.proofs.Common.{refl}
use Rattle.std.proofs.KnownBytes.{Keeps-refl}
use Rattle.std.proofs.lemmas.Result.{err_from_is_err_and}
use Rattle.apex_console.specs.Streams.{ports_of}
use Rattle.apex_lab_cli.specs.Lints.{no_memory, reported, unwritten}
use Rattle.apex_lab_cli.proofs.LintEndings.{lint_unread}
use Rattle.apex_lab_cli.proofs.linting.run_lint.Goals as goal

pub returns-in_err-text : goal.returns-in_err-text
returns-in_err-text g c =
    let p = err_from_is_err_and c.from_residual.result c.from_residual.ensures.1 in
    let after = ports_of g.R.Source.remaining g.W.Sink.contents c.read_all.new.reader c.args.writer.now in
    rw (p.1, p.2) (lint_unread {after = after} c.in_err-text.field-0.0 c.in_err-text.ensures.counted (Keeps-refl _) refl)

pub returns-in_err-report : goal.returns-in_err-report
returns-in_err-report g c =
    let p = err_from_is_err_and c.from_residual-in_err-report.result c.from_residual-in_err-report.ensures.1 in
    rw (p.1, p.2) (no_memory (Keeps-refl _) (c.in_ok-text.ensures.counted, refl))

pub returns-in-Ok : goal.returns-in-Ok
returns-in-Ok g c =
    rw c.ending_with.ensures (reported c.in_ok-text.text.items c.in_ok-report.report c.in_ok-text.ensures.bytes
    (rw (c.deref.ensures.value, c.as_slice.ensures.value) at c.in_ok-report.ensures)
    (rw c.as_slice-2.ensures.value at c.in-Ok.ensures.bytes) (c.in_ok-text.ensures.counted, c.in-Ok.ensures.counted))

pub returns : goal.returns
returns g c =
    unwritten c.in_ok-text.text.items c.in_ok-report.report c.in_ok-text.ensures.bytes
    (rw (c.deref.ensures.value, c.as_slice.ensures.value) at c.in_ok-report.ensures)
    (rw c.as_slice-2.ensures.value at c.in-Err.ensures.beginning) (c.in_ok-text.ensures.counted, c.in-Err.ensures.counted)
