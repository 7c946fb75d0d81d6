-- The lines so far are put.
use Rattle.std.proofs.Common.{◌≡◌, ◌++◌, length}
use Rattle.apex_departures.specs.Lines.{history_text, line_parts}
use Rattle.apex_departures.proofs.lines.put_history.Given as goal

abbrev pub invariant-loop-rest : goal.invariant-loop-rest
invariant-loop-rest l =
    l.text.items ++ history_text l.comments (line_parts l.left) ≡ l.fn.text.items ++ history_text l.comments (line_parts l.history)

abbrev pub decreases-loop-rest : goal.decreases-loop-rest
decreases-loop-rest l = length l.left
