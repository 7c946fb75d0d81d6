use Rattle.std.proofs.Common.{◌+◌, ◌*◌}
use Rattle.apex_states.proofs.nodes.Nodes.+likes.Given as goal

abbrev pub decreases-number_like : goal.decreases-number_like
decreases-number_like l = 2 * l.depth

abbrev pub decreases-number_halves_like : goal.decreases-number_halves_like
decreases-number_halves_like l = 2 * l.depth + 1
