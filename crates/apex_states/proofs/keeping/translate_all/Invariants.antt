use Rattle.std.proofs.Common.{◌≡◌, length}
use Rattle.apex_states.specs.Nodes.{ArePartsFound}
use Rattle.apex_states.proofs.Numbering.{IsTranslating}
use Rattle.apex_states.proofs.keeping.translate_all.Given as goal

abbrev pub invariant-loop-place : goal.invariant-loop-place
invariant-loop-place l = record {
  translating : IsTranslating l.known l.initial.half l.half l.numbers l.among.items l.found l.place;
  slots : length l.found ≡ length l.initial.found;
  parts : ArePartsFound l.known.nodes l.half.nodes l.parts;
  part_slots : length l.parts ≡ length l.known.nodes.parts.rows;
}
