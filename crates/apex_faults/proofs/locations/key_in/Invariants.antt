use Rattle.std.proofs.Common.{◌≤◌, length}
use Rattle.apex_faults.proofs.locations.key_in.Given as goal

-- the rest comes from the text
abbrev pub invariant-keys : goal.invariant-keys
invariant-keys l = length l.rest ≤ length l.fn.text

abbrev pub decreases-keys : goal.decreases-keys
decreases-keys l = length l.rest
