use Rattle.std.proofs.Common.{◌++◌, codes}
use Rattle.std.proofs.KnownBytes.{Appends-trans}
use Rattle.std.proofs.lemmas.Result.{on_err_weaker, on_ok_weaker}
use Rattle.apex_json.specs.declared.Form.TheVariants.{Json}
use Rattle.apex_history.proofs.Outcomes.{OnErr-always}
use Rattle.apex_history.proofs.Passing.{beginning_behind, beginning_longer}
use Rattle.apex_report.specs.Json.{elements_text}
use Rattle.apex_report.proofs.json_printing.print_array.Goals as goal

pub returns-in_err-print_text-clause-err : goal.returns-in_err-print_text-clause-err
returns-in_err-print_text-clause-err g c =
    let front = c.args.front.now in
    let elements = elements_text (g.F.Figures.text Json c.args.table.now) c.args.list.now in
    OnErr-always c.from_residual.result
    (beginning_longer _ _ (front ++ elements) (codes "]")
    (beginning_longer _ _ front elements c.in_err-print_text.ensures.err))

pub returns-in_err-print_elements-clause-err : goal.returns-in_err-print_elements-clause-err
returns-in_err-print_elements-clause-err g c =
    let front = c.args.front.now in
    let elements = elements_text (g.F.Figures.text Json c.args.table.now) c.args.list.now in
    OnErr-always c.from_residual-in_err-print_elements.result
    (beginning_longer _ _ (front ++ elements) (codes "]")
    (beginning_behind _ _ _ front elements c.in_ok-print_text.ensures.ok c.in_err-print_elements.ensures.err))

pub returns-clause-ok : goal.returns-clause-ok
returns-clause-ok g c =
    let front = c.args.front.now in
    let elements = elements_text (g.F.Figures.text Json c.args.table.now) c.args.list.now in
    on_ok_weaker c.print_text-2.result
    (λ h. Appends-trans _ _ _ (front ++ elements) (codes "]")
    (Appends-trans _ _ _ front elements c.in_ok-print_text.ensures.ok c.in_ok-print_elements.ensures.ok) h)
    c.print_text-2.ensures.ok

pub returns-clause-err : goal.returns-clause-err
returns-clause-err g c =
    let front = c.args.front.now in
    let elements = elements_text (g.F.Figures.text Json c.args.table.now) c.args.list.now in
    on_err_weaker c.print_text-2.result
    (λ h. beginning_behind _ _ _ (front ++ elements) (codes "]")
    (Appends-trans _ _ _ front elements c.in_ok-print_text.ensures.ok c.in_ok-print_elements.ensures.ok) h)
    c.print_text-2.ensures.err
