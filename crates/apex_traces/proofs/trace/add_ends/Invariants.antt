-- The ends so far follow the text.
use Rattle.std.proofs.Common.{◌≡◌, ◌++◌, length, ◌+◌, ◌*◌, ◌≤◌}
use Rattle.arrayvec.specs.ArrayVec.{array_vec_len}
use Rattle.apex_traces.specs.declared.pieces.TheConstants.{TRACK}
use Rattle.std.specs.Prelude.{map}
use Rattle.apex_machine.specs.text.Listing.{texts_of}
use Rattle.apex_moments.specs.Moments.{none_shown, with_cells}
use Rattle.apex_traces.specs.Trace as trace
use Rattle.apex_traces.specs.Tracks.{cell_on}
use Rattle.apex_traces.proofs.trace.add_ends.Given as goal

abbrev pub invariant-loop-place : goal.invariant-loop-place
invariant-loop-place l = record {
  stamp : l.stamp ≡ l.time;
  many : l.place-end ≡ length l.table.processes;
  text : l.piece.items ≡ l.fn.piece.items ++ texts_of (trace.process_at l.table l.time (with_cells (map cell_on l.last)) none_shown) l.place;
  short : array_vec_len l.piece ≤ array_vec_len l.fn.piece + TRACK * l.place;
}
