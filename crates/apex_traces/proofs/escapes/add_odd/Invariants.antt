-- The text of the bytes so far follows.
use Rattle.std.proofs.Common.{◌≡◌, ◌++◌, ◌+◌, ◌*◌, ◌≤◌, take}
use Rattle.arrayvec.specs.ArrayVec.{array_vec_len}
use Rattle.apex_json.specs.Strings.{json_text}
use Rattle.apex_json.specs.declared.strings.TheConstants.{MOST_ESCAPE}
use Rattle.apex_traces.proofs.escapes.add_odd.Given as goal

abbrev pub invariant-loop-byte : goal.invariant-loop-byte
invariant-loop-byte g l = record {
  text : l.piece.items ≡ l.fn.piece.items ++ json_text (take l.byte-index l.bytes);
  short : array_vec_len l.piece ≤ array_vec_len l.fn.piece + MOST_ESCAPE * l.byte-index;
}
