-- Whether there is a finding.
use Rattle.std.proofs.Common.{◌≡◌, ◌<◌, arith, length, sym}
use Rattle.std.proofs.lemmas.Bool.Decides.{nat_tests}
use Rattle.apex_inquiries.proofs.SearchLemmas.{ends_with, ends_without}
use Rattle.apex_inquiries.proofs.searching.ending_of_census.Goals as goal

pub returns-then-is_empty : goal.returns-then-is_empty
returns-then-is_empty c =
    let found = c.args.census.now.found.items in
    let none : length found ≡ 0 = grind (arith, nat_tests, c.is_empty.ensures, c.if-is_empty.true) in
    rw c.in-Closed.is (sym (ends_without c.args.room c.in-Closed.states found none))

pub returns-else-is_empty : goal.returns-else-is_empty
returns-else-is_empty c =
    let found = c.args.census.now.found.items in
    let some : 0 < length found = grind (arith, nat_tests, c.is_empty.ensures, c.if-is_empty.false) in
    rw c.in-Closed.is (sym (ends_with c.args.room c.in-Closed.states found some))
