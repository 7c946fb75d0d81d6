use Rattle.std.proofs.Common.{length}
use Rattle.apex_console.proofs.words.+with_arguments.Given as goal

abbrev pub decreases-with_arguments : goal.decreases-with_arguments
decreases-with_arguments l = length l.arguments.now
