use Rattle.std.proofs.Common.{◌≡◌}
use Rattle.apex_links.specs.Neighbours.{first_of}
use Rattle.apex_links.specs.Links.{list_at}
use Rattle.apex_timeouts.proofs.Orders.{first_known}
use Rattle.apex_timeouts.proofs.timeline.Timeline.first.Goals as goal

pub returns-clause-known : goal.returns-clause-known
returns-clause-known c =
    let front : c.front.result ≡ first_of (list_at c.self.inside.links 0) = rw c.line.ensures at c.front.ensures in
    rw (← c.self.view_is) (first_known c.self.inside.links c.self.inside.instants.items c.self.invariant c.holds.ensures c.front.result front)
