-- If the bytes so far are plain, they are their own text.
use Rattle.std.proofs.Common.{◌≡◌, take}
use Rattle.std.specs.Prelude.{IsTrue}
use Rattle.apex_json.specs.Strings.{json_text}
use Rattle.apex_traces.proofs.escapes.are_few_plain.Given as goal

abbrev pub invariant-loop-byte : goal.invariant-loop-byte
invariant-loop-byte l = record {
  text : IsTrue l.plain → json_text (take l.byte-index l.bytes) ≡ take l.byte-index l.bytes;
}
