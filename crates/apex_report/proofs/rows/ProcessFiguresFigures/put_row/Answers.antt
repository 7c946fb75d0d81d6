use Rattle.std.proofs.Common.{◌++◌, ◌∙◌, ℕ, List, ap, codes}
use Rattle.apex_history.proofs.Joined.{five_joined}
use Rattle.apex_json.specs.Forms.{in_form}
use Rattle.apex_machine.specs.text.Texts.{process_name}
use Rattle.apex_report.specs.Members.{members_in, name_in}
use Rattle.apex_report.specs.Rows.{end_in, process_members, refusal_members}
use Rattle.apex_report.proofs.rows.ProcessFiguresFigures.put_row.Goals as goal

pub returns : goal.returns
returns c =
    let form = c.args.form in
    let f = c.args.self.now in
    let front = in_form form (codes "process ") (codes "{\"process\":") in
    let name = name_in form (process_name c.args.table.now f.process) in
    let members = members_in form (process_members f) in
    let refusals = members_in form (refusal_members f.refusals) in
    let back = end_in form in
    let begun = c.put.ensures.text ∙ ap (λ (l : List ℕ). c.args.line.now.items ++ l) c.pick.ensures.text in
    let named =
    c.put_name.ensures.text ∙ ap (λ (n : List ℕ). c.put.new.line.items ++ name_in form n) c.process_name.ensures.value
    ∙ ap (λ (l : List ℕ). l ++ name) begun in
    let counted = c.put_process_members.ensures.text ∙ ap (λ (l : List ℕ). l ++ members) named in
    let refused = c.put_refusals.ensures.text ∙ ap (λ (l : List ℕ). l ++ refusals) counted in
    c.put-2.ensures.text ∙ ap (λ (l : List ℕ). c.put_refusals.new.line.items ++ l) c.pick-2.ensures.text
    ∙ ap (λ (l : List ℕ). l ++ back) refused
    ∙ five_joined c.args.line.now.items front name members refusals back
