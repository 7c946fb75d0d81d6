-- The timers: one line of dues, and one of deadlines.
use Rattle.apex_timeouts.specs.Timeline.{Times}

-- the timers as a contract sees them
pub record Lines : Type 0 where
  pub dues : Times
  pub deadlines : Times
