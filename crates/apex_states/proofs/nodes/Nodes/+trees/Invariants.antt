use Rattle.std.proofs.Common.{◌+◌, ◌*◌}
use Rattle.apex_states.proofs.nodes.Nodes.+trees.Given as goal

abbrev pub decreases-restore : goal.decreases-restore
decreases-restore l = 2 * l.depth

abbrev pub decreases-restore_halves : goal.decreases-restore_halves
decreases-restore_halves l = 2 * l.depth + 1
