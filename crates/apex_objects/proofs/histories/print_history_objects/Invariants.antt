-- No write failed so far; of the objects so far the writer has a prefix, and the lines the rest.
use Rattle.std.proofs.Common.{◌≡◌, ◌+◌, ◌≤◌, ◌++◌}
use Rattle.std.specs.Prelude.{All}
use Rattle.arrayvec.specs.ArrayVec.{array_vec_len}
use Rattle.apex_calls.specs.Lines.{IsPrintable}
use Rattle.apex_history.specs.Counted.{inner_of, failures_of}
use Rattle.apex_history.specs.Page.{Passes}
use Rattle.apex_objects.specs.Entries.{objects_of}
use Rattle.apex_objects.specs.declared.lines.TheConstants.{MOST_OBJECT, OBJECTS_ROOM}
use Rattle.apex_objects.proofs.histories.print_history_objects.Given as goal

abbrev pub invariant-loop-entry : goal.invariant-loop-entry
invariant-loop-entry g l = record {
  split : l.fn.entries ≡ l.yielded ++ l.entry-iterator;
  printable : All (IsPrintable l.table) l.entry-iterator;
  room : array_vec_len l.lines + MOST_OBJECT ≤ OBJECTS_ROOM;
  lines : Passes (g.W.Sink.contents (inner_of l.fn.writer)) (g.W.Sink.contents (inner_of l.writer)) (objects_of l.table l.yielded) l.lines.items;
  failures : failures_of l.writer ≡ failures_of l.fn.writer;
}
