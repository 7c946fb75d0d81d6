-- The bytes so far are behind the line, each as six bytes at the most.
use Rattle.std.proofs.Common.{◌≡◌, ◌+◌, ◌*◌, ◌≤◌, ◌++◌, take}
use Rattle.arrayvec.specs.ArrayVec.{array_vec_len}
use Rattle.apex_json.specs.Strings.{json_text}
use Rattle.apex_json.proofs.strings.add_json.Given as goal

abbrev pub invariant-loop-byte : goal.invariant-loop-byte
invariant-loop-byte g l = record {
  text : l.line.items ≡ l.fn.line.items ++ json_text (take l.byte-index l.bytes);
  short : array_vec_len l.line ≤ array_vec_len l.fn.line + 6 * l.byte-index;
}
