use Rattle.std.proofs.Common.{◌≡◌, ◌++◌, length}
use Rattle.std.specs.Vec.Iter.{into_iter_items}
use Rattle.apex_receipts.specs.Receipts.{unspoken_cores}
use Rattle.apex_receipts.proofs.opened.voices.Given as goal

abbrev pub invariant-loop-speaker : goal.invariant-loop-speaker
invariant-loop-speaker g l = record {
  parts : l.yielded ++ into_iter_items l.speaker-iterator ≡ l.fn.speakers.items;
  number : l.number ≡ length l.yielded;
  voices : l.voices.items ≡ unspoken_cores l.number;
}
