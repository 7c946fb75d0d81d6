-- The bytes so far follow the text.
use Rattle.std.proofs.Common.{◌≡◌, ◌++◌, take}
use Rattle.apex_moments.specs.Texts.{xml_text}
use Rattle.apex_moments.proofs.texts.put_xml.Given as goal

abbrev pub invariant-loop-byte : goal.invariant-loop-byte
invariant-loop-byte l = record {
  text : l.text.items ≡ l.fn.text.items ++ xml_text (take l.byte-index l.bytes);
}
