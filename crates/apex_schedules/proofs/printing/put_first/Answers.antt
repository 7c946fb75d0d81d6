-- The first item and its space are put.
use Rattle.std.proofs.Common.{◌≡◌, ◌<◌, ◌-◌, length, drop, take, arith, rules}
use Rattle.std.specs.Prelude.{slice_get, Some}
use Rattle.std.proofs.lemmas.Bool.Decides.{nat_tests}
use Rattle.apex_schedules.proofs.Printed.{more_left, none_left}
use Rattle.apex_schedules.proofs.printing.put_first.Goals as goal

pub returns-then-not-is_empty-clause-text : goal.returns-then-not-is_empty-clause-text
returns-then-not-is_empty-clause-text c =
    let found : slice_get c.args.events.now 0 ≡ Some c.first-item.result = search rules in
    let some : 0 < length (take (length c.args.events.now - c.length_of_first-times.result) (drop c.length_of_first-times.result c.args.events.now)) = grind (arith, nat_tests, c.is_empty.ensures, c.if-not-is_empty.true) in
    more_left _ _ _ c.first-item.result c.args.events.now _ found c.length_of_first-times.ensures.count some c.put_item.ensures.text c.push.ensures.items

pub returns-else-not-is_empty-clause-text : goal.returns-else-not-is_empty-clause-text
returns-else-not-is_empty-clause-text c =
    let found : slice_get c.args.events.now 0 ≡ Some c.first-item.result = search rules in
    let none : length (take (length c.args.events.now - c.length_of_first-times.result) (drop c.length_of_first-times.result c.args.events.now)) ≡ 0 = grind (arith, nat_tests, c.is_empty.ensures, c.if-not-is_empty.false) in
    none_left _ _ c.first-item.result c.args.events.now _ found c.length_of_first-times.ensures.count none c.put_item.ensures.text
