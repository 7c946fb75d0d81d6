-- No write failed so far; of the text that the page held and the texts so far the writer has a
-- prefix, and the page the rest.
use Rattle.std.proofs.Common.{◌≡◌, ◌++◌}
use Rattle.apex_machine.specs.text.Listing.{texts_of}
use Rattle.apex_history.specs.Counted.{inner_of, failures_of}
use Rattle.apex_history.specs.Page.{Passes}
use Rattle.apex_services.specs.Sections.{thing_count, thing_text}
use Rattle.apex_services.proofs.listing.Listing.gather_section.Given as goal

abbrev pub invariant-loop-place : goal.invariant-loop-place
invariant-loop-place g l = record {
  many : l.place-end ≡ thing_count l.self l.section;
  lines : Passes (g.W.Sink.contents (inner_of l.fn.writer)) (g.W.Sink.contents (inner_of l.writer)) (l.fn.page ++ texts_of (thing_text l.self l.section) l.place) l.page;
  failures : failures_of l.writer ≡ failures_of l.fn.writer;
}
