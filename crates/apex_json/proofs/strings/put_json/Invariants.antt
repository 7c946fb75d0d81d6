-- The bytes so far are behind the text.
use Rattle.std.proofs.Common.{◌≡◌, ◌++◌, take}
use Rattle.apex_json.specs.Strings.{json_text}
use Rattle.apex_json.proofs.strings.put_json.Given as goal

abbrev pub invariant-loop-byte : goal.invariant-loop-byte
invariant-loop-byte l = record {
  text : l.text.items ≡ l.fn.text.items ++ json_text (take l.byte-index l.bytes);
}
