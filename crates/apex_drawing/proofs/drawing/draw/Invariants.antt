-- The events so far were made; the writer has a prefix of the picture so far, and the page the rest.
use Rattle.std.proofs.Common.{◌≡◌, ◌≤◌, drop}
use Rattle.arrayvec.specs.ArrayVec.{array_vec_len}
use Rattle.apex_traces.specs.declared.pieces.TheConstants.{GATHERED}
use Rattle.apex_drawing.specs.Pages.{pending}
use Rattle.apex_history.specs.Counted.{inner_of, failures_of}
use Rattle.apex_drawing.proofs.Coursed.{IsDrawn}
use Rattle.apex_drawing.proofs.drawing.draw.Given as goal

abbrev pub invariant-loop-event : goal.invariant-loop-event
invariant-loop-event g l = record {
  drawn : IsDrawn l.style l.table l.events (drop l.event-index l.events) l.course
      (g.W.Sink.contents (inner_of l.fn.writer)) (g.W.Sink.contents (inner_of l.writer)) (pending l.page);
  room : array_vec_len l.page.columns ≤ GATHERED;
  failures : failures_of l.writer ≡ failures_of l.fn.writer;
}
