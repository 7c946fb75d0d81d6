-- The labels so far follow the text.
use Rattle.std.proofs.Common.{◌≡◌, ◌++◌, length}
use Rattle.apex_machine.specs.text.Listing.{texts_of}
use Rattle.apex_pictures.specs.Svg.{label_at}
use Rattle.apex_pictures.proofs.borders.put_labels.Given as goal

abbrev pub invariant-loop-place : goal.invariant-loop-place
invariant-loop-place l = record {
  many : l.place-end ≡ length l.table.processes;
  text : l.text.items ≡ l.fn.text.items ++ texts_of (label_at l.table l.frame) l.place;
}
