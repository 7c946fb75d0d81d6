use Rattle.std.proofs.Common.{◌≡◌, None, Some, rules}
use Rattle.std.specs.List.{last_or}
use Rattle.apex_calls.specs.Lines.{IsPrintable}
use Rattle.apex_check.proofs.MoreLines.{holds_of_last}
use Rattle.apex_check.proofs.following.departure.Goals as goal

pub returns-in-Some-clause-tellable : goal.returns-in-Some-clause-tellable
returns-in-Some-clause-tellable g c =
    let kernel = c.args.kernel.now in
    let last : last_or None kernel.machine.history ≡ Some c.in-Some.entry = search rules in
    rw c.kept.ensures (holds_of_last (IsPrintable kernel.table) kernel.machine.history c.in-Some.entry last c.holds.ensures.printable)
