-- No write failed so far; of the lines so far the writer has a prefix, the page the next part, and
-- `lines` the rest, with room for one more.
use Rattle.std.proofs.Common.{◌≡◌, ◌+◌, ◌≤◌, ◌++◌}
use Rattle.arrayvec.specs.ArrayVec.{array_vec_len}
use Rattle.apex_types.specs.declared.limits.TheConstants.{MOST_LINE}
use Rattle.apex_history.specs.declared.puts.TheConstants.{LINES_ROOM}
use Rattle.std.specs.Prelude.{All}
use Rattle.apex_calls.specs.Lines.{lines_of, IsPrintable}
use Rattle.apex_history.specs.Counted.{inner_of, failures_of}
use Rattle.apex_history.specs.Page.{Passes}
use Rattle.apex_history.proofs.printing.print_history.Given as goal

abbrev pub invariant-loop-entry : goal.invariant-loop-entry
invariant-loop-entry g l = record {
  split : l.fn.entries ≡ l.yielded ++ l.entry-iterator;
  printable : All (IsPrintable l.table) l.entry-iterator;
  lines : Passes (g.W.Sink.contents (inner_of l.fn.writer)) (g.W.Sink.contents (inner_of l.writer)) (lines_of l.table l.yielded) (l.page ++ l.lines.items);
  room : array_vec_len l.lines + MOST_LINE ≤ LINES_ROOM;
  failures : failures_of l.writer ≡ failures_of l.fn.writer;
}
