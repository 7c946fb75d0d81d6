use Rattle.std.proofs.Common.{◌≡◌, ◌++◌, ◌∙◌, ap, flat_map}
use Rattle.std.proofs.KnownBytes.{Appends-trans}
use Rattle.std.proofs.lemmas.Result.{on_err_weaker, on_ok_weaker}
use Rattle.apex_json.specs.declared.Form.TheVariants.{Text}
use Rattle.apex_machine.specs.text.Status.{history_line}
use Rattle.apex_history.proofs.Outcomes.{OnErr-always}
use Rattle.apex_history.proofs.Passing.{beginning_behind, beginning_longer}
use Rattle.apex_report.specs.Rows.{core_row, object_row, process_row, service_row}
use Rattle.apex_report.proofs.printing.print_lines.Goals as goal

pub returns-in_err-write_all-clause-err : goal.returns-in_err-write_all-clause-err
returns-in_err-write_all-clause-err g c =
    let r = c.args.report.now in
    let first = history_line r.entries in
    let second = flat_map (core_row Text) r.cores in
    let third = flat_map (process_row Text c.args.table.now) r.processes in
    let fourth = flat_map (object_row Text c.args.table.now) r.objects in
    let fifth = flat_map (service_row Text) r.services in
    let text : c.as_slice.result.now ≡ first = c.as_slice.ensures.value ∙ c.history_line.ensures ∙ ap history_line c.entries.ensures.value in
    OnErr-always c.from_residual.result
    (beginning_longer _ _ (first ++ second ++ third ++ fourth) fifth
    (beginning_longer _ _ (first ++ second ++ third) fourth
    (beginning_longer _ _ (first ++ second) third
    (beginning_longer _ _ first second (rw text at c.in_err-write_all.ensures.beginning)))))

pub returns-in_err-print_rows-clause-err : goal.returns-in_err-print_rows-clause-err
returns-in_err-print_rows-clause-err g c =
    let r = c.args.report.now in
    let first = history_line r.entries in
    let second = flat_map (core_row Text) r.cores in
    let third = flat_map (process_row Text c.args.table.now) r.processes in
    let fourth = flat_map (object_row Text c.args.table.now) r.objects in
    let fifth = flat_map (service_row Text) r.services in
    let text : c.as_slice.result.now ≡ first = c.as_slice.ensures.value ∙ c.history_line.ensures ∙ ap history_line c.entries.ensures.value in
    OnErr-always c.from_residual-in_err-print_rows.result
    (beginning_longer _ _ (first ++ second ++ third ++ fourth) fifth
    (beginning_longer _ _ (first ++ second ++ third) fourth
    (beginning_longer _ _ (first ++ second) third
    (beginning_behind _ _ _ first second (rw text at c.in_ok-write_all.ensures.bytes)
    (rw c.cores.ensures at c.in_err-print_rows.ensures.err)))))

pub returns-in_err-print_rows-2-clause-err : goal.returns-in_err-print_rows-2-clause-err
returns-in_err-print_rows-2-clause-err g c =
    let r = c.args.report.now in
    let first = history_line r.entries in
    let second = flat_map (core_row Text) r.cores in
    let third = flat_map (process_row Text c.args.table.now) r.processes in
    let fourth = flat_map (object_row Text c.args.table.now) r.objects in
    let fifth = flat_map (service_row Text) r.services in
    let text : c.as_slice.result.now ≡ first = c.as_slice.ensures.value ∙ c.history_line.ensures ∙ ap history_line c.entries.ensures.value in
    OnErr-always c.from_residual-in_err-print_rows-2.result
    (beginning_longer _ _ (first ++ second ++ third ++ fourth) fifth
    (beginning_longer _ _ (first ++ second ++ third) fourth
    (beginning_behind _ _ _ (first ++ second) third
    (Appends-trans _ _ _ first second (rw text at c.in_ok-write_all.ensures.bytes) (rw c.cores.ensures at c.in_ok-print_rows.ensures.ok))
    (rw c.processes.ensures at c.in_err-print_rows-2.ensures.err))))

pub returns-in_err-print_rows-3-clause-err : goal.returns-in_err-print_rows-3-clause-err
returns-in_err-print_rows-3-clause-err g c =
    let r = c.args.report.now in
    let first = history_line r.entries in
    let second = flat_map (core_row Text) r.cores in
    let third = flat_map (process_row Text c.args.table.now) r.processes in
    let fourth = flat_map (object_row Text c.args.table.now) r.objects in
    let fifth = flat_map (service_row Text) r.services in
    let text : c.as_slice.result.now ≡ first = c.as_slice.ensures.value ∙ c.history_line.ensures ∙ ap history_line c.entries.ensures.value in
    OnErr-always c.from_residual-in_err-print_rows-3.result
    (beginning_longer _ _ (first ++ second ++ third ++ fourth) fifth
    (beginning_behind _ _ _ (first ++ second ++ third) fourth
    (Appends-trans _ _ _ (first ++ second) third
    (Appends-trans _ _ _ first second (rw text at c.in_ok-write_all.ensures.bytes) (rw c.cores.ensures at c.in_ok-print_rows.ensures.ok))
    (rw c.processes.ensures at c.in_ok-print_rows-2.ensures.ok))
    (rw c.objects.ensures at c.in_err-print_rows-3.ensures.err)))

pub returns-clause-ok : goal.returns-clause-ok
returns-clause-ok g c =
    let r = c.args.report.now in
    let first = history_line r.entries in
    let second = flat_map (core_row Text) r.cores in
    let third = flat_map (process_row Text c.args.table.now) r.processes in
    let fourth = flat_map (object_row Text c.args.table.now) r.objects in
    let fifth = flat_map (service_row Text) r.services in
    let text : c.as_slice.result.now ≡ first = c.as_slice.ensures.value ∙ c.history_line.ensures ∙ ap history_line c.entries.ensures.value in
    on_ok_weaker c.print_rows-4.result
    (λ h. Appends-trans _ _ _ (first ++ second ++ third ++ fourth) fifth
    (Appends-trans _ _ _ (first ++ second ++ third) fourth
    (Appends-trans _ _ _ (first ++ second) third
    (Appends-trans _ _ _ first second (rw text at c.in_ok-write_all.ensures.bytes) (rw c.cores.ensures at c.in_ok-print_rows.ensures.ok))
    (rw c.processes.ensures at c.in_ok-print_rows-2.ensures.ok))
    (rw c.objects.ensures at c.in_ok-print_rows-3.ensures.ok))
    (rw c.services.ensures at h))
    c.print_rows-4.ensures.ok

pub returns-clause-err : goal.returns-clause-err
returns-clause-err g c =
    let r = c.args.report.now in
    let first = history_line r.entries in
    let second = flat_map (core_row Text) r.cores in
    let third = flat_map (process_row Text c.args.table.now) r.processes in
    let fourth = flat_map (object_row Text c.args.table.now) r.objects in
    let fifth = flat_map (service_row Text) r.services in
    let text : c.as_slice.result.now ≡ first = c.as_slice.ensures.value ∙ c.history_line.ensures ∙ ap history_line c.entries.ensures.value in
    on_err_weaker c.print_rows-4.result
    (λ h. beginning_behind _ _ _ (first ++ second ++ third ++ fourth) fifth
    (Appends-trans _ _ _ (first ++ second ++ third) fourth
    (Appends-trans _ _ _ (first ++ second) third
    (Appends-trans _ _ _ first second (rw text at c.in_ok-write_all.ensures.bytes) (rw c.cores.ensures at c.in_ok-print_rows.ensures.ok))
    (rw c.processes.ensures at c.in_ok-print_rows-2.ensures.ok))
    (rw c.objects.ensures at c.in_ok-print_rows-3.ensures.ok))
    (rw c.services.ensures at h))
    c.print_rows-4.ensures.err
