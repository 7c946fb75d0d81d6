use Rattle.std.proofs.Common.{◌<◌, length}
use Rattle.apex_links.specs.Links.{list_at}
use Rattle.apex_timeouts.proofs.Orders.{rising_line, timed_placed}
use Rattle.apex_timeouts.proofs.timeline.Timeline.arm.Goals as goal

pub place_sorted-requires-clause-rising : goal.place_sorted-requires-clause-rising
place_sorted-requires-clause-rising c =
    rw (c.line.ensures, c.deref.ensures.value) (rising_line c.self.inside.instants.items c.args.process c.args.instant (list_at c.self.inside.links 0) c.self.invariant.ordered)

pub invariant_of-self : goal.invariant_of-self
invariant_of-self c =
    let known : c.args.process < length c.self.inside.instants.items = rw (← c.self.view_is) at c.requires.process in
    rw (c.place.ensures.value, c.place_sorted.ensures, c.line.ensures, c.deref.ensures.value) (timed_placed c.self.inside.links c.self.inside.instants.items c.args.process c.args.instant c.self.invariant known
    (rw (← c.self.view_is) at c.requires.idle))
