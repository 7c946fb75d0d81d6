-- The innermost group is written out as often as it comes.
use Rattle.std.proofs.Common.{◌≡◌, ◌+◌, ◌-◌, ◌*◌, ◌<◌, ◌≤◌, ◌++◌, [], ◌∷◌, drop, length, arith, rules}
use Rattle.std.specs.Prelude.{replicate}
use Rattle.std.specs.List.{flat_map}
use Rattle.apex_types.specs.declared.limits.TheConstants.{MOST_ENTRIES}
use Rattle.apex_schedules.proofs.Levels.{close_refused, close_taken}
use Rattle.apex_schedules.proofs.groups.Reading.close_group.Goals as goal

pub returns-then-length-start : goal.returns-then-length-start
returns-then-length-start c =
    let popped : c.args.self.now.starts.items ≡ c.pop.new.self.items ++ c.in-Some.start ∷ [] = search rules in
    let same : c.len-length.result ≡ length c.args.self.now.items.items = omega arith in
    let many : MOST_ENTRIES < length c.args.self.now.items.items + (length c.args.self.now.items.items - c.in-Some.start) * (c.args.times - 1) =
    rw (same, c.saturating_sub-copies.ensures) at c.if-length-start.true in
    close_refused c.args.self.now.items.items c.pop.new.self.items c.args.self.now.starts.items c.in-Some.start c.args.times popped c.requires many

pub returns : goal.returns
returns c =
    let popped : c.args.self.now.starts.items ≡ c.pop.new.self.items ++ c.in-Some.start ∷ [] = search rules in
    let same : c.len-length.result ≡ length c.args.self.now.items.items = omega arith in
    let few : length c.args.self.now.items.items + (length c.args.self.now.items.items - c.in-Some.start) * (c.args.times - 1) ≤ MOST_ENTRIES =
    rw (same, c.saturating_sub-copies.ensures) at c.if-length-start.false in
    let put : c.put_copies.new.items.items ≡ c.args.self.now.items.items ++ flat_map (λ copy. copy) (replicate (c.args.times - 1) (drop c.in-Some.start c.args.self.now.items.items)) =
    rw c.saturating_sub-copies.ensures at c.in_ok-put_copies.ensures in
    close_taken c.args.self.now.items.items c.pop.new.self.items c.args.self.now.starts.items c.in-Some.start c.args.times _ popped c.requires put few
