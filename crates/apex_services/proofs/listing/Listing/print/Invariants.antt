-- No write failed so far; of the sections so far the writer has a prefix, and the page the rest.
use Rattle.std.proofs.Common.{◌≡◌, take}
use Rattle.std.specs.Prelude.{flat_map}
use Rattle.apex_history.specs.Counted.{inner_of, failures_of}
use Rattle.apex_history.specs.Page.{Passes}
use Rattle.apex_services.specs.Sections.{sections, section_text}
use Rattle.apex_services.proofs.listing.Listing.print.Given as goal

abbrev pub invariant-loop-section : goal.invariant-loop-section
invariant-loop-section g l = record {
  lines : Passes (g.W.Sink.contents (inner_of l.fn.writer)) (g.W.Sink.contents (inner_of l.writer)) (flat_map (section_text l.self) (take l.section-index sections)) l.page;
  failures : failures_of l.writer ≡ failures_of l.fn.writer;
}
