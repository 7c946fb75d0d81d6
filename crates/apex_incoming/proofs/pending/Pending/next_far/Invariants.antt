-- No read failed so far, and no byte was lost.
use Rattle.std.proofs.Common.{◌≡◌, ◌-◌, ◌≤◌, length}
use Rattle.std.specs.Io.KnownBytes.{Keeps, prepend_known}
use Rattle.apex_history.specs.Counted.{inner_of, failures_of, reads_left_of}
use Rattle.apex_incoming.specs.Ahead.{fuel}
use Rattle.apex_incoming.proofs.pending.Pending.next_far.Given as goal

abbrev pub invariant-loop-end : goal.invariant-loop-end
invariant-loop-end g l = record {
  kept : Keeps (prepend_known l.fn.self (g.R.Source.remaining (inner_of l.fn.reader))) (prepend_known l.self (g.R.Source.remaining (inner_of l.reader)));
  failures : failures_of l.reader ≡ failures_of l.fn.reader;
  fuel : fuel l.self (reads_left_of l.reader) ≤ fuel l.fn.self (reads_left_of l.fn.reader);
}

abbrev pub decreases-loop-end : goal.decreases-loop-end
decreases-loop-end g l = 4097 - length l.self
