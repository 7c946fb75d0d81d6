-- The core after the steps so far.
use Rattle.std.proofs.Common.{◌≡◌}
use Rattle.apex_pictures.specs.Rows.{core_after}
use Rattle.apex_pictures.proofs.rows.bound_core.Given as goal

abbrev pub invariant-loop-place : goal.invariant-loop-place
invariant-loop-place l = record {
  core : l.core ≡ core_after l.table l.process l.place;
}
