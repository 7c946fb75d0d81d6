use Rattle.std.proofs.Common.{length}
use Rattle.apex_store.proofs.handovers.+hand_on.Given as goal

abbrev pub decreases-hand_on : goal.decreases-hand_on
decreases-hand_on g l = length l.held.now
