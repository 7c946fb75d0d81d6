use Rattle.apex_links.specs.Links.{removed}
use Rattle.apex_links.proofs.Steps.{Shows, known_bound, known_before, known_after, only_in, remove_shows, removed_free, removed_out, free_then}
use Rattle.apex_links.proofs.links.LinkSet.take.Goals as goal

pub part-requires-clause-list : goal.part-requires-clause-list
part-requires-clause-list c = known_bound _ _ c.self.invariant c.args.process _ (rw c.node.ensures at c.in-Some.is)

pub part-requires-clause-before : goal.part-requires-clause-before
part-requires-clause-before c = known_before _ _ c.self.invariant c.args.process _ (rw c.node.ensures at c.in-Some.is)

pub part-requires-clause-after : goal.part-requires-clause-after
part-requires-clause-after c = known_after _ _ c.self.invariant c.args.process _ (rw c.node.ensures at c.in-Some.is)

shows : (c : goal.After-part) → Shows c.part.new.self.nodes.items c.part.new.self.ends.items (removed c.args.self.now c.args.process)
shows c = rw (← c.self.view_is) (remove_shows _ _ c.self.invariant c.args.process _ (rw c.node.ensures at c.in-Some.is) _ _ c.part.ensures.nodes c.part.ensures.ends)

pub invariant_of-self : goal.invariant_of-self
invariant_of-self c = (shows c).linked

pub returns-in-Some-clause-list : goal.returns-in-Some-clause-list
returns-in-Some-clause-list c = rw (← c.self.view_is) (only_in _ _ c.self.invariant c.args.process _ (rw c.node.ensures at c.in-Some.is))

pub returns-in-Some-clause-lists : goal.returns-in-Some-clause-lists
returns-in-Some-clause-lists c = (shows c).seen

pub returns-in-Some-clause-free : goal.returns-in-Some-clause-free
returns-in-Some-clause-free c = free_then _ (shows c).seen (rw (← c.self.view_is) (removed_out _ _ c.self.invariant c.args.process))

pub returns-in_default-clause-lists : goal.returns-in_default-clause-lists
returns-in_default-clause-lists c = rw (← c.self.view_is) (removed_free _ _ c.self.invariant c.args.process (rw c.node.ensures at c.in_default.is))

pub returns-in_default-clause-free : goal.returns-in_default-clause-free
returns-in_default-clause-free c =
    let same = removed_free _ _ c.self.invariant c.args.process (rw c.node.ensures at c.in_default.is) in
    rw (← c.self.view_is) (free_then _ same (removed_out _ _ c.self.invariant c.args.process))
