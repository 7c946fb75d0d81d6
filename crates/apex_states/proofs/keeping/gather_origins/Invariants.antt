use Rattle.std.proofs.Common.{◌≡◌, length, take}
use Rattle.apex_states.specs.Expansions.{origins_of, states_of}
use Rattle.apex_states.proofs.keeping.gather_origins.Given as goal

abbrev pub invariant-loop-place : goal.invariant-loop-place
invariant-loop-place l = record {
  origins : l.origins.items ≡ origins_of (take l.place l.expansions);
  paired : length l.origins.items ≡ length (states_of (take l.place l.expansions));
}
