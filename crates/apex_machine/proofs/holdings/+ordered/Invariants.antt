use Rattle.std.proofs.Common.{length}
use Rattle.apex_machine.proofs.holdings.+ordered.Given as goal

abbrev pub decreases-ordered : goal.decreases-ordered
decreases-ordered l = length l.held.now
