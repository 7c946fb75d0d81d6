use Rattle.std.proofs.Common.{◌≡◌, ◌++◌, ◌∙◌, ◌∷◌, [], ℕ, List, ap, append_assoc}
use Rattle.apex_json.specs.declared.Form.TheVariants.{Json}
use Rattle.apex_report.specs.Members.{members_in}
use Rattle.apex_report.specs.Rows.{held_at_member, held_by_in, held_member}
use Rattle.apex_report.proofs.object_rows.put_longest.Goals as goal

pub returns-in-Json-clause-text : goal.returns-in-Json-clause-text
unfolding members_in
returns-in-Json-clause-text c =
    let line = c.args.line.now.items in
    let owned = c.args.ownership.now in
    let members = members_in Json (held_member owned ∷ held_at_member owned ∷ []) in
    let holder = held_by_in Json c.args.table.now owned in
    let put : c.put_members-in-Json.new.line.items ≡ line ++ members =
    rw (c.in-Json.is, c.held_of.ensures, c.end_of.ensures) at c.put_members-in-Json.ensures.text in
    rw c.in-Json.is
    ((rw c.in-Json.is at c.put_held_by-in-Json.ensures.text) ∙ ap (λ (l : List ℕ). l ++ holder) put ∙ append_assoc line members holder)
