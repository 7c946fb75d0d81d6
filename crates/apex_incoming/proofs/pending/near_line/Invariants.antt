use Rattle.std.proofs.Common.{◌-◌, ◌≤◌, length}
use Rattle.apex_incoming.proofs.NearLines.{IsPassed}
use Rattle.apex_incoming.proofs.pending.near_line.Given as goal

abbrev pub invariant-loop-at : goal.invariant-loop-at
invariant-loop-at l = record { within : l.at ≤ length l.bytes; passed : IsPassed l.bytes l.at }

abbrev pub decreases-loop-at : goal.decreases-loop-at
decreases-loop-at l = 128 - l.at
