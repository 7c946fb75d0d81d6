use Rattle.apex_timeouts.proofs.Orders.{timed_removed}
use Rattle.apex_timeouts.proofs.timeline.Timeline.disarm.Goals as goal

pub invariant_of-self : goal.invariant_of-self
invariant_of-self c = rw c.remove.ensures.lists (timed_removed c.self.inside.links c.self.inside.instants.items c.args.process c.self.invariant)
