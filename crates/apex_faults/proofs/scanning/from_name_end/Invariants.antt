use Rattle.std.proofs.Common.{◌≤◌, length}
use Rattle.apex_faults.proofs.scanning.from_name_end.Given as goal

-- the rest comes from the text
abbrev pub invariant-bytes : goal.invariant-bytes
invariant-bytes l = length l.rest ≤ length l.fn.text

abbrev pub decreases-bytes : goal.decreases-bytes
decreases-bytes l = length l.rest
