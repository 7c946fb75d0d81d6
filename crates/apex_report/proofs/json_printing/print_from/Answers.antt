use Rattle.std.proofs.Common.{◌≡◌, ◌++◌, ◌∙◌, codes, flat_map}
use Rattle.std.proofs.KnownBytes.{Appends-trans}
use Rattle.std.proofs.lemmas.Result.{on_err_weaker, on_ok_weaker}
use Rattle.apex_json.specs.declared.Form.TheVariants.{Json}
use Rattle.apex_history.proofs.Outcomes.{OnErr-always}
use Rattle.apex_history.proofs.Passing.{beginning_behind, beginning_longer}
use Rattle.apex_report.specs.Rows.{behind_text}
use Rattle.apex_report.proofs.json_printing.print_from.Goals as goal

pub returns-in_err-write_all-clause-err : goal.returns-in_err-write_all-clause-err
returns-in_err-write_all-clause-err g c =
    let row = g.F.Figures.text Json c.args.table.now in
    let first = codes "\n" ++ row c.args.first.now in
    let second = flat_map (behind_text Json row) c.args.others.now in
    let text : c.as_slice.result.now ≡ first = c.as_slice.ensures.value ∙ c.row_line.ensures in
    OnErr-always c.from_residual.result (beginning_longer _ _ first second (rw text at c.in_err-write_all.ensures.beginning))

pub returns-clause-ok : goal.returns-clause-ok
returns-clause-ok g c =
    let row = g.F.Figures.text Json c.args.table.now in
    let first = codes "\n" ++ row c.args.first.now in
    let second = flat_map (behind_text Json row) c.args.others.now in
    let text : c.as_slice.result.now ≡ first = c.as_slice.ensures.value ∙ c.row_line.ensures in
    on_ok_weaker c.print_rows.result
    (λ h. Appends-trans _ _ _ first second (rw text at c.in_ok-write_all.ensures.bytes) h)
    c.print_rows.ensures.ok

pub returns-clause-err : goal.returns-clause-err
returns-clause-err g c =
    let row = g.F.Figures.text Json c.args.table.now in
    let first = codes "\n" ++ row c.args.first.now in
    let second = flat_map (behind_text Json row) c.args.others.now in
    let text : c.as_slice.result.now ≡ first = c.as_slice.ensures.value ∙ c.row_line.ensures in
    on_err_weaker c.print_rows.result
    (λ h. beginning_behind _ _ _ first second (rw text at c.in_ok-write_all.ensures.bytes) h)
    c.print_rows.ensures.err
