use Rattle.std.proofs.Common.{◌≡◌, ◌<◌, ◌++◌, ◌∙◌, List, ℕ, ap, length, arith}
use Rattle.apex_history.proofs.Outcomes.{OnErr-always}
use Rattle.apex_report.specs.Rows.{behind_text}
use Rattle.apex_report.proofs.Printed.{line_begun, line_written}
use Rattle.apex_report.proofs.printing.print_rows.Goals as goal

pub loop-figures-preserved : goal.loop-figures-preserved
loop-figures-preserved g c =
    let here = c.figures-item in
    let at = c.loop-figures.invariant in
    let row = g.F.Figures.text c.args.form c.args.table.now in
    let text = behind_text c.args.form row in
    let within : c.loop-figures.figures-index < length c.args.rows.now = omega (arith, c.loop-figures-test.true) in
    let is : c.as_slice.result.now ≡ text here.result =
    c.as_slice.ensures.value ∙ c.row_line.ensures ∙ ap (λ (l : List ℕ). l ++ row here.result) c.pick-front.ensures.text in
    record {
      lines = line_written text c.args.rows.now c.loop-figures.figures-index here.result within here.is _ _ _ at.lines
          (rw is at c.in_ok-write_all.ensures.bytes);
      failures = c.in_ok-write_all.ensures.counted ∙ at.failures;
    }

pub returns-in_err-write_all-clause-err : goal.returns-in_err-write_all-clause-err
returns-in_err-write_all-clause-err g c =
    let here = c.figures-item in
    let row = g.F.Figures.text c.args.form c.args.table.now in
    let text = behind_text c.args.form row in
    let within : c.loop-figures.figures-index < length c.args.rows.now = omega (arith, c.loop-figures-test.true) in
    let is : c.as_slice.result.now ≡ text here.result =
    c.as_slice.ensures.value ∙ c.row_line.ensures ∙ ap (λ (l : List ℕ). l ++ row here.result) c.pick-front.ensures.text in
    OnErr-always c.from_residual.result
    (line_begun text c.args.rows.now c.loop-figures.figures-index here.result within here.is _ _ _ c.loop-figures.invariant.lines
    (rw is at c.in_err-write_all.ensures.beginning))
