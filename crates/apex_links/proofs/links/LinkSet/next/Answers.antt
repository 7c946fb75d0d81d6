use Rattle.apex_links.proofs.Steps.{next_free, next_at}
use Rattle.apex_links.proofs.links.LinkSet.next.Goals as goal

pub returns-clause-free : goal.returns-clause-free
returns-clause-free c = λ out. rw c.node.ensures (next_free _ _ c.self.invariant c.args.process (rw (← c.self.view_is) at out))

pub returns-clause-at : goal.returns-clause-at
returns-clause-at c = λ l k there. rw (c.node.ensures, ← c.self.view_is) (next_at _ _ c.self.invariant c.args.process l k (rw (← c.self.view_is) at there))
