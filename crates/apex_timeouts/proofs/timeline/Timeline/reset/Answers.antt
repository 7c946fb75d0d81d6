use Rattle.apex_timeouts.proofs.Instants.{reset_none, reset_some}
use Rattle.apex_timeouts.proofs.timeline.Timeline.reset.Goals as goal

pub returns-in-Some : goal.returns-in-Some
returns-in-Some c = rw (c.in-Some.is, c.arm.ensures, c.disarm.ensures.line) (reset_some c.args.self.now c.args.process c.requires c.holds.ensures.distinct c.in-Some.instant)

pub returns-in_default : goal.returns-in_default
returns-in_default c = rw (c.in_default.is, c.disarm.ensures.line) (reset_none c.args.self.now c.args.process c.requires c.holds.ensures.distinct)
