use Rattle.std.proofs.Common.{◌≡◌, ◌∷◌, rules}
use Rattle.apex_report.proofs.json_printing.print_elements.Goals as goal

pub returns-in-Some-clause-err : goal.returns-in-Some-clause-err
returns-in-Some-clause-err g c =
    let whole : c.args.list.now ≡ c.in-Some.first.now ∷ c.in-Some.others.now = search rules in
    rw whole c.print_from.ensures.err
