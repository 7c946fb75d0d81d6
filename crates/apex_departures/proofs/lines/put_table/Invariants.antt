-- The lines so far are put, and none of them is the separator.
use Rattle.std.proofs.Common.{◌≡◌, ◌++◌, Bool, length}
use Rattle.apex_departures.specs.Lines.{behind_separator, line_parts, text_without}
use Rattle.apex_departures.proofs.lines.put_table.Given as goal

abbrev pub invariant-loop-rest : goal.invariant-loop-rest
invariant-loop-rest l = record {
  text : (comments : Bool)
      → l.fn.text.items ++ text_without comments (line_parts l.all) ≡ l.text.items ++ text_without comments (line_parts l.left);
  history : behind_separator (line_parts l.left) ≡ behind_separator (line_parts l.all);
}

abbrev pub decreases-loop-rest : goal.decreases-loop-rest
decreases-loop-rest l = length l.left
