-- No read failed so far, and the bytes that were read are in `all`.
use Rattle.std.proofs.Common.{◌≡◌}
use Rattle.std.specs.Io.KnownBytes.{Consumes}
use Rattle.apex_history.specs.Counted.{inner_of, failures_of, reads_left_of}
use Rattle.apex_history.proofs.reading.read_all.Given as goal

abbrev pub invariant-loop-count : goal.invariant-loop-count
invariant-loop-count g l = record {
  bytes : Consumes (g.R.Source.remaining (inner_of l.fn.reader)) (g.R.Source.remaining (inner_of l.reader)) l.all.items;
  failures : failures_of l.reader ≡ failures_of l.fn.reader;
}

abbrev pub decreases-loop-count : goal.decreases-loop-count
decreases-loop-count g l = reads_left_of l.reader
