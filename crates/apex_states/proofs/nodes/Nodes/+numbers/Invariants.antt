use Rattle.std.proofs.Common.{◌+◌, ◌*◌}
use Rattle.apex_states.proofs.nodes.Nodes.+numbers.Given as goal

abbrev pub decreases-number : goal.decreases-number
decreases-number l = 2 * l.depth

abbrev pub decreases-number_halves : goal.decreases-number_halves
decreases-number_halves l = 2 * l.depth + 1
