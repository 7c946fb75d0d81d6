use Rattle.std.proofs.Common.{◌≤◌, length}
use Rattle.apex_faults.proofs.locations.header_of.Given as goal

-- the rest comes from the text
abbrev pub invariant-headers : goal.invariant-headers
invariant-headers l = length l.rest ≤ length l.fn.text

abbrev pub decreases-headers : goal.decreases-headers
decreases-headers l = length l.rest
