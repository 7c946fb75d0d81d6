-- The signals so far follow the others.
use Rattle.std.proofs.Common.{◌≡◌, ◌+◌, ◌≤◌, ◌++◌}
use Rattle.arrayvec.specs.ArrayVec.{array_vec_len}
use Rattle.apex_types.specs.declared.limits.TheConstants.{MOST_PROCESSES}
use Rattle.apex_waves.specs.Kinds.{count_of, signal_at}
use Rattle.apex_moments.specs.Places.{of_places}
use Rattle.apex_waves.proofs.signals.add_signals.Given as goal

abbrev pub invariant-loop-place : goal.invariant-loop-place
invariant-loop-place l = record {
  end : l.place-end ≡ count_of l.table l.kind;
  few : l.place-end ≤ MOST_PROCESSES;
  many : array_vec_len l.signals ≡ array_vec_len l.fn.signals + l.place;
  items : l.signals.items ≡ l.fn.signals.items ++ of_places (signal_at l.kind) l.place;
}
