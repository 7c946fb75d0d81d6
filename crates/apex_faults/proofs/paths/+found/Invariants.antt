use Rattle.std.proofs.Common.{length}
use Rattle.apex_faults.proofs.paths.+found.Given as goal

abbrev pub decreases-found : goal.decreases-found
decreases-found l = length l.path.now
