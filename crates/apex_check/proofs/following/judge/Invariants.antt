-- No read failed so far. The lines that were taken are those of *run* for the events of the
-- history.
use Rattle.std.proofs.Common.{◌≡◌, ◌-◌, ℕ, List, length}
use Rattle.std.specs.Io.KnownBytes.{Consumes, prepend_known}
use Rattle.apex_history.specs.Counted.{inner_of, failures_of}
use Rattle.apex_machine.specs.Machine.{events_of}
use Rattle.apex_check.specs.Histories.{AreLines}
use Rattle.apex_check.proofs.following.judge.Given as goal

abbrev pub invariant-loop-next : goal.invariant-loop-next
invariant-loop-next g l = record {
  table : l.kernel.table ≡ l.fn.kernel.table;
  lines : (bytes : List ℕ)
      × Consumes (prepend_known l.fn.pending (g.R.Source.remaining (inner_of l.fn.reader))) (prepend_known l.pending (g.R.Source.remaining (inner_of l.reader))) bytes
      × AreLines l.fn.kernel.table bytes (events_of l.kernel.machine.history);
  failures : failures_of l.reader ≡ failures_of l.fn.reader;
}

abbrev pub decreases-loop-next : goal.decreases-loop-next
decreases-loop-next g l = l.fn.kernel.table.limit - length l.kernel.machine.history
