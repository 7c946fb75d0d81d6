use Rattle.std.proofs.Common.{◌++◌, ◌∙◌, ℕ, List, ap, codes}
use Rattle.apex_calls.specs.Catalogue.{Row, row_of}
use Rattle.apex_history.proofs.Joined.{five_joined}
use Rattle.apex_json.specs.Forms.{in_form}
use Rattle.apex_report.specs.Members.{members_in}
use Rattle.apex_report.specs.Rows.{end_in, refusal_members}
use Rattle.apex_report.proofs.rows.put_service.Goals as goal

pub returns : goal.returns
returns c =
    let form = c.args.form in
    let f = c.args.figures.now in
    let front = in_form form (codes "service ") (codes "{\"service\":\"") in
    let word = (row_of f.service).word in
    let quote = in_form form (codes "") (codes "\"") in
    let refusals = members_in form (refusal_members f.refusals) in
    let back = end_in form in
    let begun = c.put.ensures.text ∙ ap (λ (l : List ℕ). c.args.line.now.items ++ l) c.pick.ensures.text in
    let named =
    c.put-2.ensures.text ∙ ap (λ (row : Row). c.put.new.line.items ++ row.word) c.row_of.ensures.row
    ∙ ap (λ (l : List ℕ). l ++ word) begun in
    let closed =
    c.put-3.ensures.text ∙ ap (λ (l : List ℕ). c.put-2.new.line.items ++ l) c.pick-2.ensures.text
    ∙ ap (λ (l : List ℕ). l ++ quote) named in
    let refused = c.put_refusals.ensures.text ∙ ap (λ (l : List ℕ). l ++ refusals) closed in
    c.put-4.ensures.text ∙ ap (λ (l : List ℕ). c.put_refusals.new.line.items ++ l) c.pick-3.ensures.text
    ∙ ap (λ (l : List ℕ). l ++ back) refused
    ∙ five_joined c.args.line.now.items front word quote refusals back
