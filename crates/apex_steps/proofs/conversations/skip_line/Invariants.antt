-- No read failed so far. The bytes that were taken are a part of one line.
use Rattle.std.proofs.Common.{◌≡◌, ◌<◌, ◌≤◌, ℕ, List, length}
use Rattle.std.specs.Io.KnownBytes.{Consumes, prepend_known}
use Rattle.apex_history.specs.Counted.{inner_of, failures_of, reads_left_of}
use Rattle.apex_incoming.specs.Ahead.{fuel}
use Rattle.apex_incoming.specs.Lines.{IsOneLine}
use Rattle.apex_steps.proofs.conversations.skip_line.Given as goal

abbrev pub invariant-loop-next : goal.invariant-loop-next
invariant-loop-next g l = record {
  taken : (part : List ℕ) × IsOneLine part × (length l.fn.pending ≤ length part)
      × Consumes (prepend_known l.fn.pending (g.R.Source.remaining (inner_of l.fn.reader))) (prepend_known l.pending (g.R.Source.remaining (inner_of l.reader))) part;
  failures : failures_of l.reader ≡ failures_of l.fn.reader;
  fuel : fuel l.pending (reads_left_of l.reader) < fuel l.fn.pending (reads_left_of l.fn.reader);
}

abbrev pub decreases-loop-next : goal.decreases-loop-next
decreases-loop-next g l = fuel l.pending (reads_left_of l.reader)
