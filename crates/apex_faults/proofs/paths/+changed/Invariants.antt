use Rattle.std.proofs.Common.{length}
use Rattle.apex_faults.proofs.paths.+changed.Given as goal

abbrev pub decreases-changed : goal.decreases-changed
decreases-changed l = length l.path.now
