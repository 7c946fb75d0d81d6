-- The headings so far follow the text.
use Rattle.std.proofs.Common.{◌≡◌, ◌++◌}
use Rattle.apex_machine.specs.text.Listing.{texts_of}
use Rattle.apex_pictures.specs.Svg.{heading_text}
use Rattle.apex_pictures.proofs.borders.put_headings.Given as goal

abbrev pub invariant-loop-core : goal.invariant-loop-core
invariant-loop-core l = record {
  many : l.core-end ≡ l.table.cores;
  text : l.text.items ≡ l.fn.text.items ++ texts_of (heading_text l.frame) l.core;
}
