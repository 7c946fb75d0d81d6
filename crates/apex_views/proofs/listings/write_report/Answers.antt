-- The report is that of the kernel's history.
use Rattle.std.proofs.Common.{ap, arith}
use Rattle.std.proofs.KnownBytes.{Keeps-refl}
use Rattle.std.proofs.lemmas.Result.{err_from_is_err_and}
use Rattle.apex_views.specs.Shows.{unbegun}
use Rattle.apex_views.specs.Plans.{report_in}
use Rattle.apex_views.proofs.Endings.{shows_prefix, shows_whole}
use Rattle.apex_views.proofs.Reporting.{is_report}
use Rattle.apex_views.proofs.listings.write_report.Goals as goal

pub report_of-requires : goal.report_of-requires
report_of-requires g c = rw c.entries.ensures (omega (arith, c.holds.ensures.within, c.holds.ensures.lawful.limit.1))

pub returns-in_err-report : goal.returns-in_err-report
returns-in_err-report g c =
    let p = err_from_is_err_and c.from_residual.result c.from_residual.ensures.1 in
    rw (p.1, p.2) (unbegun (Keeps-refl _))

pub print_in-requires : goal.print_in-requires
print_in-requires g c = (
  c.args.kernel.now.machine.history,
  is_report c.table.ensures c.table-2.ensures c.entries.ensures c.in_ok-report.ensures,
)

pub returns-in-Ok : goal.returns-in-Ok
returns-in-Ok g c =
    let history = c.args.kernel.now.machine.history in
    let is = is_report c.table.ensures c.table-2.ensures c.entries.ensures c.in_ok-report.ensures in
    shows_whole (_, ap (λ t. report_in c.args.form t history) c.table-2.ensures, c.in-Ok.ensures.ok history is)
    c.in-Ok.ensures.counted

pub returns : goal.returns
returns g c =
    let history = c.args.kernel.now.machine.history in
    let is = is_report c.table.ensures c.table-2.ensures c.entries.ensures c.in_ok-report.ensures in
    shows_prefix (_, ap (λ t. report_in c.args.form t history) c.table-2.ensures, c.in-Err.ensures.err history is)
    c.in-Err.ensures.counted
