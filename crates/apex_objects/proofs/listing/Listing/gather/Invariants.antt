-- No write failed so far; of the text that the lines held and the texts so far the writer has a
-- prefix, and the lines the rest.
use Rattle.std.proofs.Common.{◌≡◌, ◌+◌, ◌≤◌, ◌++◌}
use Rattle.arrayvec.specs.ArrayVec.{array_vec_len}
use Rattle.apex_machine.specs.text.Listing.{texts_of}
use Rattle.apex_history.specs.Counted.{inner_of, failures_of}
use Rattle.apex_history.specs.Page.{Passes}
use Rattle.apex_objects.specs.Sections.{thing_count, thing_text}
use Rattle.apex_objects.specs.declared.lines.TheConstants.{MOST_OBJECT, OBJECTS_ROOM}
use Rattle.apex_objects.proofs.listing.Listing.gather.Given as goal

abbrev pub invariant-loop-place : goal.invariant-loop-place
invariant-loop-place g l = record {
  many : l.place-end ≡ thing_count l.self l.section;
  room : array_vec_len l.line + MOST_OBJECT ≤ OBJECTS_ROOM;
  lines : Passes (g.W.Sink.contents (inner_of l.fn.writer)) (g.W.Sink.contents (inner_of l.writer))
      (l.fn.line.items ++ texts_of (thing_text l.self l.section) l.place) l.line.items;
  failures : failures_of l.writer ≡ failures_of l.fn.writer;
}
