-- The bytes so far are shown.
use Rattle.std.proofs.Common.{◌≡◌, ◌++◌, length}
use Rattle.apex_departures.specs.Shown.{shown}
use Rattle.apex_departures.proofs.putting.put_shown.Given as goal

abbrev pub invariant-loop-byte : goal.invariant-loop-byte
invariant-loop-byte l = l.text.items ++ shown l.left ≡ l.fn.text.items ++ shown l.line

abbrev pub decreases-loop-byte : goal.decreases-loop-byte
decreases-loop-byte l = length l.left
