-- The changes so far follow the text.
use Rattle.std.proofs.Common.{◌≡◌, ◌++◌, ◌+◌, ◌*◌, ◌≤◌}
use Rattle.arrayvec.specs.ArrayVec.{array_vec_len}
use Rattle.apex_traces.specs.declared.pieces.TheConstants.{TRACK}
use Rattle.apex_machine.specs.text.Listing.{texts_of}
use Rattle.apex_moments.specs.Moments.{with_running}
use Rattle.apex_traces.specs.Trace as trace
use Rattle.apex_traces.proofs.trace.add_cores.Given as goal

abbrev pub invariant-loop-place : goal.invariant-loop-place
invariant-loop-place l = record {
  stamp : l.stamp ≡ l.time;
  many : l.place-end ≡ l.table.cores;
  text : l.piece.items ≡ l.fn.piece.items ++ texts_of (trace.core_at l.table l.time (with_running l.before) (with_running l.after)) l.place;
  short : array_vec_len l.piece ≤ array_vec_len l.fn.piece + TRACK * l.place;
}
