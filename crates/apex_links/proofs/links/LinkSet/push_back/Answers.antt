use Rattle.apex_links.specs.Links.{pushed_back}
use Rattle.apex_links.proofs.Steps.{Shows, known_last, push_back_shows}
use Rattle.apex_links.proofs.links.LinkSet.push_back.Goals as goal

pub join-requires-clause-before : goal.join-requires-clause-before
join-requires-clause-before c = rw c.ends.ensures (known_last _ _ c.self.invariant c.args.list)

shows : (c : goal.After-join) → Shows c.join.new.self.nodes.items c.join.new.self.ends.items (pushed_back c.args.self.now c.args.list c.args.process)
shows c = rw (← c.self.view_is) (push_back_shows _ _ c.self.invariant c.args.process (rw (← c.self.view_is) at c.requires.process) (rw (← c.self.view_is) at c.requires.free) _ _ c.args.list
    (rw (← c.self.view_is) at c.requires.list) (rw c.ends.ensures at c.join.ensures.nodes) (rw c.ends.ensures at c.join.ensures.ends))

pub invariant_of-self : goal.invariant_of-self
invariant_of-self c = (shows c).linked

pub returns : goal.returns
returns c = (shows c).seen
