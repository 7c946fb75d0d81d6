-- No read failed so far. The bytes that were taken are in the text: whole lines of a table, and
-- then a piece of one.
use Rattle.std.proofs.Common.{◌≡◌, ◌≤◌, length, take, drop}
use Rattle.std.specs.Io.KnownBytes.{Consumes, prepend_known}
use Rattle.apex_history.specs.Counted.{inner_of, failures_of, reads_left_of}
use Rattle.apex_incoming.specs.Ahead.{fuel}
use Rattle.apex_check.specs.Texts.{IsTableText}
use Rattle.apex_incoming.specs.Lines.{IsOneLine}
use Rattle.apex_check.proofs.tables.table_text.Given as goal

abbrev pub invariant-loop-next : goal.invariant-loop-next
invariant-loop-next g l = record {
  within : l.start ≤ length l.text.items;
  lines : IsTableText (take l.start l.text.items);
  piece : IsOneLine (drop l.start l.text.items);
  taken : Consumes (prepend_known l.fn.pending (g.R.Source.remaining (inner_of l.fn.reader))) (prepend_known l.pending (g.R.Source.remaining (inner_of l.reader))) l.text.items;
  failures : failures_of l.reader ≡ failures_of l.fn.reader;
}

abbrev pub decreases-loop-next : goal.decreases-loop-next
decreases-loop-next g l = fuel l.pending (reads_left_of l.reader)
