-- The digits of the bytes so far are behind the earlier text of the line, two for each.
use Rattle.std.proofs.Common.{◌≡◌, ◌+◌, ◌*◌, ◌++◌, take}
use Rattle.std.specs.Prelude.{flat_map}
use Rattle.arrayvec.specs.ArrayVec.{array_vec_len}
use Rattle.apex_machine.specs.text.Texts.{byte_text}
use Rattle.apex_history.proofs.puts.message.put_digits_of.Given as goal

abbrev pub invariant-loop-byte : goal.invariant-loop-byte
invariant-loop-byte g l = record {
  text : l.line.items ≡ l.fn.line.items ++ flat_map byte_text (take l.byte-index l.bytes);
  len : array_vec_len l.line ≡ array_vec_len l.fn.line + 2 * l.byte-index;
}
