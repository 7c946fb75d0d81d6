use Rattle.apex_process.proofs.Emptied.{unreadied}
use Rattle.apex_process.proofs.lists.Lists.unready.Goals as goal

pub returns-then-is_ready-clause-links : goal.returns-then-is_ready-clause-links
returns-then-is_ready-clause-links c = unreadied _ _ c.args.process (rw c.if-is_ready.true at c.is_ready.ensures) c.leave.ensures.links c.leave.ensures.free
