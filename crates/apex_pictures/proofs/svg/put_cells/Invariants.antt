-- The cells so far follow the text.
use Rattle.std.proofs.Common.{◌≡◌, ◌++◌, length}
use Rattle.apex_machine.specs.text.Listing.{texts_of}
use Rattle.apex_pictures.specs.Svg.{cell_at}
use Rattle.apex_pictures.proofs.svg.put_cells.Given as goal

abbrev pub invariant-loop-place : goal.invariant-loop-place
invariant-loop-place l = record {
  many : l.place-end ≡ length l.table.processes;
  text : l.text.items ≡ l.fn.text.items ++ texts_of (cell_at l.table l.frame l.width l.moment) l.place;
}
