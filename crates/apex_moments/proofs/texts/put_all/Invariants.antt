-- The parts so far follow the text.
use Rattle.std.proofs.Common.{◌≡◌, ◌++◌, take}
use Rattle.std.specs.Prelude.{flat_map}
use Rattle.apex_moments.specs.Texts.{part_text}
use Rattle.apex_moments.proofs.texts.put_all.Given as goal

abbrev pub invariant-loop-part : goal.invariant-loop-part
invariant-loop-part l = record {
  text : l.text.items ≡ l.fn.text.items ++ flat_map part_text (take l.part-index l.parts);
}
