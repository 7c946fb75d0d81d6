use Rattle.std.proofs.Common.{◌≡◌}
use Rattle.apex_states.specs.Index.{hashed}
use Rattle.apex_states.proofs.index.home.Given as goal

abbrev pub invariant-loop-at : goal.invariant-loop-at
invariant-loop-at l = l.hash ≡ hashed l.row l.at
