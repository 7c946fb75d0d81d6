-- The ends so far follow the text.
use Rattle.std.proofs.Common.{◌≡◌, ◌++◌, [], length, ◌+◌, ◌*◌, ◌≤◌}
use Rattle.arrayvec.specs.ArrayVec.{array_vec_len}
use Rattle.apex_traces.specs.declared.pieces.TheConstants.{TRACK}
use Rattle.apex_machine.specs.text.Listing.{texts_of}
use Rattle.apex_traces.specs.Trace as trace
use Rattle.apex_traces.proofs.mutexes.add_mutex_ends.Given as goal

abbrev pub invariant-loop-place : goal.invariant-loop-place
invariant-loop-place l = record {
  stamp : l.stamp ≡ l.time;
  many : l.place-end ≡ length l.table.mutexes;
  text : l.piece.items ≡ l.fn.piece.items ++ texts_of (trace.mutex_at l.table l.time l.last []) l.place;
  short : array_vec_len l.piece ≤ array_vec_len l.fn.piece + TRACK * l.place;
}
