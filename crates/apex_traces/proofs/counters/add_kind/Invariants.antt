-- The counts and the changes so far.
use Rattle.std.proofs.Common.{◌≡◌, ◌++◌, drop, length, ◌+◌, ◌*◌, ◌≤◌}
use Rattle.arrayvec.specs.ArrayVec.{array_vec_len}
use Rattle.apex_traces.specs.declared.pieces.TheConstants.{COUNTER}
use Rattle.apex_machine.specs.text.Listing.{texts_of}
use Rattle.apex_traces.specs.Counters.{count_at}
use Rattle.apex_moments.specs.Counts.{count_of, counts_in}
use Rattle.apex_moments.specs.Places.{of_places}
use Rattle.apex_traces.proofs.counters.add_kind.Given as goal

abbrev pub invariant-loop-place : goal.invariant-loop-place
invariant-loop-place l = record {
  end : l.place-end ≡ length l.fn.counts;
  counts : l.counts ≡ of_places (count_of l.objects l.kind) l.place ++ drop l.place l.fn.counts;
  text : l.piece.items ≡ l.fn.piece.items ++ texts_of (count_at l.table l.time l.kind l.fn.counts (counts_in l.table l.objects l.kind)) l.place;
  short : array_vec_len l.piece ≤ array_vec_len l.fn.piece + COUNTER * l.place;
}
