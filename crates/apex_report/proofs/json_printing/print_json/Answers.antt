use Rattle.std.proofs.Common.{◌≡◌, ◌++◌, ◌∙◌, ap, codes, decimal}
use Rattle.std.proofs.KnownBytes.{Appends-trans}
use Rattle.std.proofs.lemmas.Result.{on_err_weaker, on_ok_weaker}
use Rattle.apex_history.proofs.Outcomes.{OnErr-always}
use Rattle.apex_history.proofs.Passing.{beginning_behind, beginning_longer}
use Rattle.apex_report.specs.Json.{arrays_text}
use Rattle.apex_report.proofs.json_printing.print_json.Goals as goal

pub returns-in_err-write_all-clause-err : goal.returns-in_err-write_all-clause-err
returns-in_err-write_all-clause-err g c =
    let r = c.args.report.now in
    let head = codes "{\"entries\":" ++ decimal r.entries in
    let arrays = arrays_text c.args.table.now r in
    let text : c.as_slice.result.now ≡ head =
    c.as_slice.ensures.value ∙ c.entries_line.ensures ∙ ap (λ n. codes "{\"entries\":" ++ decimal n) c.entries.ensures.value in
    OnErr-always c.from_residual.result
    (beginning_longer _ _ (head ++ arrays) (codes "}\n")
    (beginning_longer _ _ head arrays (rw text at c.in_err-write_all.ensures.beginning)))

pub returns-in_err-print_arrays-clause-err : goal.returns-in_err-print_arrays-clause-err
returns-in_err-print_arrays-clause-err g c =
    let r = c.args.report.now in
    let head = codes "{\"entries\":" ++ decimal r.entries in
    let arrays = arrays_text c.args.table.now r in
    let text : c.as_slice.result.now ≡ head =
    c.as_slice.ensures.value ∙ c.entries_line.ensures ∙ ap (λ n. codes "{\"entries\":" ++ decimal n) c.entries.ensures.value in
    OnErr-always c.from_residual-in_err-print_arrays.result
    (beginning_longer _ _ (head ++ arrays) (codes "}\n")
    (beginning_behind _ _ _ head arrays (rw text at c.in_ok-write_all.ensures.bytes) c.in_err-print_arrays.ensures.err))

pub returns-clause-ok : goal.returns-clause-ok
returns-clause-ok g c =
    let r = c.args.report.now in
    let head = codes "{\"entries\":" ++ decimal r.entries in
    let arrays = arrays_text c.args.table.now r in
    let text : c.as_slice.result.now ≡ head =
    c.as_slice.ensures.value ∙ c.entries_line.ensures ∙ ap (λ n. codes "{\"entries\":" ++ decimal n) c.entries.ensures.value in
    on_ok_weaker c.print_text.result
    (λ h. Appends-trans _ _ _ (head ++ arrays) (codes "}\n")
    (Appends-trans _ _ _ head arrays (rw text at c.in_ok-write_all.ensures.bytes) c.in_ok-print_arrays.ensures.ok) h)
    c.print_text.ensures.ok

pub returns-clause-err : goal.returns-clause-err
returns-clause-err g c =
    let r = c.args.report.now in
    let head = codes "{\"entries\":" ++ decimal r.entries in
    let arrays = arrays_text c.args.table.now r in
    let text : c.as_slice.result.now ≡ head =
    c.as_slice.ensures.value ∙ c.entries_line.ensures ∙ ap (λ n. codes "{\"entries\":" ++ decimal n) c.entries.ensures.value in
    on_err_weaker c.print_text.result
    (λ h. beginning_behind _ _ _ (head ++ arrays) (codes "}\n")
    (Appends-trans _ _ _ head arrays (rw text at c.in_ok-write_all.ensures.bytes) c.in_ok-print_arrays.ensures.ok) h)
    c.print_text.ensures.err
