-- None of the lines so far is the separator.
use Rattle.std.proofs.Common.{◌≡◌, length}
use Rattle.apex_departures.specs.Lines.{behind_separator, line_parts}
use Rattle.apex_departures.proofs.lines.history_in.Given as goal

abbrev pub invariant-loop-rest : goal.invariant-loop-rest
invariant-loop-rest l = behind_separator (line_parts l.left) ≡ behind_separator (line_parts l.all)

abbrev pub decreases-loop-rest : goal.decreases-loop-rest
decreases-loop-rest l = length l.left
