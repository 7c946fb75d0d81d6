use Rattle.apex_links.specs.Links.{inserted_before}
use Rattle.apex_links.proofs.Steps.{Shows, known_bound, known_before, insert_shows, inserted_free}
use Rattle.apex_links.proofs.links.LinkSet.insert_before.Goals as goal

pub join-requires-clause-list : goal.join-requires-clause-list
join-requires-clause-list c = known_bound _ _ c.self.invariant c.args.other _ (rw c.node-place.ensures at c.in-Some.is)

pub join-requires-clause-before : goal.join-requires-clause-before
join-requires-clause-before c = rw c.node-place.ensures (known_before _ _ c.self.invariant c.args.other _ (rw c.node-place.ensures at c.in-Some.is))

shows : (c : goal.After-join) → Shows c.join.new.self.nodes.items c.join.new.self.ends.items (inserted_before c.args.self.now c.args.other c.args.process)
shows c = rw (← c.self.view_is) (insert_shows _ _ c.self.invariant c.args.process (rw (← c.self.view_is) at c.requires.process) (rw (← c.self.view_is) at c.requires.free) _ _ c.args.other _
    (rw c.node-place.ensures at c.in-Some.is) (rw c.node-place.ensures at c.join.ensures.nodes) (rw c.node-place.ensures at c.join.ensures.ends))

pub invariant_of-self : goal.invariant_of-self
invariant_of-self c = (shows c).linked

pub returns-in-Some : goal.returns-in-Some
returns-in-Some c = (shows c).seen

pub returns-in_default : goal.returns-in_default
returns-in_default c = rw (← c.self.view_is) (inserted_free _ _ c.self.invariant c.args.other c.args.process (rw c.node-place.ensures at c.in_default.is))
