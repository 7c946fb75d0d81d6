-- The first counts so far follow the text.
use Rattle.std.proofs.Common.{◌≡◌, ◌++◌, [], ◌+◌, ◌*◌, ◌≤◌}
use Rattle.arrayvec.specs.ArrayVec.{array_vec_len}
use Rattle.apex_traces.specs.declared.pieces.TheConstants.{COUNTER}
use Rattle.apex_machine.specs.text.Listing.{texts_of}
use Rattle.apex_traces.specs.Counters.{count_at}
use Rattle.apex_moments.specs.Counts.{object_count}
use Rattle.apex_traces.proofs.counters.add_firsts.Given as goal

abbrev pub invariant-loop-place : goal.invariant-loop-place
invariant-loop-place l = record {
  many : l.place-end ≡ object_count l.table l.kind;
  text : l.piece.items ≡ l.fn.piece.items ++ texts_of (count_at l.table 0 l.kind [] l.first) l.place;
  short : array_vec_len l.piece ≤ array_vec_len l.fn.piece + COUNTER * l.place;
}
