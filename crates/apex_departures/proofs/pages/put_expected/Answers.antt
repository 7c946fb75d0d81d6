-- The key, the line and the column are put one behind the other.
use Rattle.std.proofs.Common.{◌∙◌, ℕ, List, ◌++◌, ap, codes}
use Rattle.apex_json.specs.Forms.{in_form}
use Rattle.apex_departures.specs.Pages.{column_in, expected_in, line_in}
use Rattle.apex_departures.proofs.ThreeParts.{three_parts}
use Rattle.apex_departures.proofs.pages.put_expected.Goals as goal

pub returns : goal.returns
unfolding expected_in
returns c =
    let key = in_form c.args.form (codes "\nexpected: ") (codes ",\"expected\":") in
    three_parts c.put_column.result c.args.page.now.items key (line_in c.args.form c.args.line.now)
    (column_in c.args.form c.args.given.now c.args.line.now) c.put.new.text.items c.put_line_in.new.page.items c.put_column.new.page.items
    (c.in_ok-put.ensures ∙ ap (λ (l : List ℕ). c.args.page.now.items ++ l) c.pick.ensures.text) c.in_ok-put_line_in.ensures c.put_column.ensures
