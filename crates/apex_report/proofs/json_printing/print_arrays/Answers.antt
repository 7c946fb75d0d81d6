use Rattle.std.proofs.Common.{◌++◌, codes}
use Rattle.std.proofs.KnownBytes.{Appends-trans}
use Rattle.std.proofs.lemmas.Result.{on_err_weaker, on_ok_weaker}
use Rattle.apex_json.specs.declared.Form.TheVariants.{Json}
use Rattle.apex_history.proofs.Outcomes.{OnErr-always}
use Rattle.apex_history.proofs.Passing.{beginning_behind, beginning_longer}
use Rattle.apex_report.specs.Json.{array_text}
use Rattle.apex_report.specs.Rows.{core_row, object_row, process_row, service_row}
use Rattle.apex_report.proofs.json_printing.print_arrays.Goals as goal

pub returns-in_err-print_array-clause-err : goal.returns-in_err-print_array-clause-err
returns-in_err-print_array-clause-err g c =
    let table = c.args.table.now in
    let r = c.args.report.now in
    let first = array_text (codes ",\"cores\":[") (core_row Json) r.cores in
    let second = array_text (codes ",\"processes\":[") (process_row Json table) r.processes in
    let third = array_text (codes ",\"objects\":[") (object_row Json table) r.objects in
    let fourth = array_text (codes ",\"services\":[") (service_row Json) r.services in
    OnErr-always c.from_residual.result
    (beginning_longer _ _ (first ++ second ++ third) fourth
    (beginning_longer _ _ (first ++ second) third
    (beginning_longer _ _ first second (rw c.cores.ensures at c.in_err-print_array.ensures.err))))

pub returns-in_err-print_array-2-clause-err : goal.returns-in_err-print_array-2-clause-err
returns-in_err-print_array-2-clause-err g c =
    let table = c.args.table.now in
    let r = c.args.report.now in
    let first = array_text (codes ",\"cores\":[") (core_row Json) r.cores in
    let second = array_text (codes ",\"processes\":[") (process_row Json table) r.processes in
    let third = array_text (codes ",\"objects\":[") (object_row Json table) r.objects in
    let fourth = array_text (codes ",\"services\":[") (service_row Json) r.services in
    OnErr-always c.from_residual-in_err-print_array-2.result
    (beginning_longer _ _ (first ++ second ++ third) fourth
    (beginning_longer _ _ (first ++ second) third
    (beginning_behind _ _ _ first second (rw c.cores.ensures at c.in_ok-print_array.ensures.ok)
    (rw c.processes.ensures at c.in_err-print_array-2.ensures.err))))

pub returns-in_err-print_array-3-clause-err : goal.returns-in_err-print_array-3-clause-err
returns-in_err-print_array-3-clause-err g c =
    let table = c.args.table.now in
    let r = c.args.report.now in
    let first = array_text (codes ",\"cores\":[") (core_row Json) r.cores in
    let second = array_text (codes ",\"processes\":[") (process_row Json table) r.processes in
    let third = array_text (codes ",\"objects\":[") (object_row Json table) r.objects in
    let fourth = array_text (codes ",\"services\":[") (service_row Json) r.services in
    OnErr-always c.from_residual-in_err-print_array-3.result
    (beginning_longer _ _ (first ++ second ++ third) fourth
    (beginning_behind _ _ _ (first ++ second) third
    (Appends-trans _ _ _ first second (rw c.cores.ensures at c.in_ok-print_array.ensures.ok) (rw c.processes.ensures at c.in_ok-print_array-2.ensures.ok))
    (rw c.objects.ensures at c.in_err-print_array-3.ensures.err)))

pub returns-clause-ok : goal.returns-clause-ok
returns-clause-ok g c =
    let table = c.args.table.now in
    let r = c.args.report.now in
    let first = array_text (codes ",\"cores\":[") (core_row Json) r.cores in
    let second = array_text (codes ",\"processes\":[") (process_row Json table) r.processes in
    let third = array_text (codes ",\"objects\":[") (object_row Json table) r.objects in
    let fourth = array_text (codes ",\"services\":[") (service_row Json) r.services in
    on_ok_weaker c.print_array-4.result
    (λ h. Appends-trans _ _ _ (first ++ second ++ third) fourth
    (Appends-trans _ _ _ (first ++ second) third
    (Appends-trans _ _ _ first second (rw c.cores.ensures at c.in_ok-print_array.ensures.ok) (rw c.processes.ensures at c.in_ok-print_array-2.ensures.ok))
    (rw c.objects.ensures at c.in_ok-print_array-3.ensures.ok))
    (rw c.services.ensures at h))
    c.print_array-4.ensures.ok

pub returns-clause-err : goal.returns-clause-err
returns-clause-err g c =
    let table = c.args.table.now in
    let r = c.args.report.now in
    let first = array_text (codes ",\"cores\":[") (core_row Json) r.cores in
    let second = array_text (codes ",\"processes\":[") (process_row Json table) r.processes in
    let third = array_text (codes ",\"objects\":[") (object_row Json table) r.objects in
    let fourth = array_text (codes ",\"services\":[") (service_row Json) r.services in
    on_err_weaker c.print_array-4.result
    (λ h. beginning_behind _ _ _ (first ++ second ++ third) fourth
    (Appends-trans _ _ _ (first ++ second) third
    (Appends-trans _ _ _ first second (rw c.cores.ensures at c.in_ok-print_array.ensures.ok) (rw c.processes.ensures at c.in_ok-print_array-2.ensures.ok))
    (rw c.objects.ensures at c.in_ok-print_array-3.ensures.ok))
    (rw c.services.ensures at h))
    c.print_array-4.ensures.err
