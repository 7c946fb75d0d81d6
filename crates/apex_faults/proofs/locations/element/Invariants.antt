use Rattle.std.proofs.Common.{◌≤◌, length}
use Rattle.apex_faults.proofs.locations.element.Given as goal

-- the rest comes from the text
abbrev pub invariant-elements : goal.invariant-elements
invariant-elements l = length l.rest ≤ length l.fn.text
