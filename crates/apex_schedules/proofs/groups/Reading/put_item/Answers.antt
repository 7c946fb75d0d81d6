-- One more item is in the innermost group.
use Rattle.std.proofs.Common.{◌≡◌, ◌<◌, ◌≤◌, ◌++◌, [], ◌∷◌, length, arith, rules}
use Rattle.apex_types.specs.declared.limits.TheConstants.{MOST_ENTRIES}
use Rattle.apex_schedules.proofs.Levels.{item_refused, item_taken}
use Rattle.apex_schedules.proofs.groups.Reading.put_item.Goals as goal

pub returns-then-len : goal.returns-then-len
returns-then-len c =
    let many : MOST_ENTRIES ≤ length c.args.self.now.items.items = omega arith in
    item_refused c.args.self.now.items.items c.args.self.now.starts.items c.args.item c.requires many

pub returns : goal.returns
returns c =
    let few : length c.args.self.now.items.items < MOST_ENTRIES = omega arith in
    let put : c.push.new.self.items ≡ c.args.self.now.items.items ++ c.args.item ∷ [] = search rules in
    rw put (item_taken c.args.self.now.items.items c.args.self.now.starts.items c.args.item c.requires few)
