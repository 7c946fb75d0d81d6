-- The marks so far follow the text.
use Rattle.std.proofs.Common.{◌≡◌, ◌++◌, ◌+◌, ◌*◌, ◌≤◌, take}
use Rattle.std.specs.Prelude.{flat_map}
use Rattle.arrayvec.specs.ArrayVec.{array_vec_len}
use Rattle.apex_traces.specs.Trace.{marked_text}
use Rattle.apex_traces.specs.declared.pieces.TheConstants.{MARK}
use Rattle.apex_traces.proofs.trace.add_marks.Given as goal

abbrev pub invariant-loop-notice : goal.invariant-loop-notice
invariant-loop-notice l = record {
  stamp : l.stamp ≡ l.time;
  text : l.piece.items ≡ l.fn.piece.items ++ flat_map (marked_text l.time) (take l.notice-index l.notices);
  short : array_vec_len l.piece ≤ array_vec_len l.fn.piece + MARK * l.notice-index;
}
