use Rattle.std.proofs.Common.{◌+◌, ◌*◌}
use Rattle.apex_states.proofs.nodes.Nodes.+translates.Given as goal

abbrev pub decreases-translate : goal.decreases-translate
decreases-translate l = 2 * l.depth

abbrev pub decreases-translate_halves : goal.decreases-translate_halves
decreases-translate_halves l = 2 * l.depth + 1
