-- The bytes so far are the same.
use Rattle.std.proofs.Common.{◌≡◌, ◌+◌, ◌-◌, ◌≤◌, drop, length}
use Rattle.std.specs.Prelude.{◌==◌}
use Rattle.std.specs.List.{common_prefix_len}
use Rattle.apex_departures.proofs.putting.same_bytes.Given as goal

abbrev pub invariant-loop-at : goal.invariant-loop-at
invariant-loop-at l = record {
  one : l.at ≤ length l.one;
  other : l.at ≤ length l.other;
  same : common_prefix_len ◌==◌ l.one l.other ≡ l.at + common_prefix_len ◌==◌ (drop l.at l.one) (drop l.at l.other);
}

abbrev pub decreases-loop-at : goal.decreases-loop-at
decreases-loop-at l = length l.one - l.at
