-- No line so far is the separator.
use Rattle.std.proofs.Common.{◌-◌, ◌≤◌, length, take}
use Rattle.apex_check.specs.Texts.{IsTableText}
use Rattle.apex_views.proofs.parts.parted.Given as goal

abbrev pub invariant-loop-length : goal.invariant-loop-length
invariant-loop-length l = record {
  within : l.start ≤ length l.text;
  lines : IsTableText (take l.start l.text);
}

abbrev pub decreases-loop-length : goal.decreases-loop-length
decreases-loop-length l = length l.text - l.start
