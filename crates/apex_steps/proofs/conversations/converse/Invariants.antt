-- No read and no write failed so far. On the bytes that were taken the answers were written.
use Rattle.std.specs.Prelude.{◌≡◌, []}
use Rattle.std.specs.Io.KnownBytes.{prepend_known}
use Rattle.apex_history.specs.Counted.{inner_of, failures_of, reads_left_of}
use Rattle.apex_history.specs.Ports.{ports}
use Rattle.apex_incoming.specs.Ahead.{fuel}
use Rattle.apex_steps.proofs.Talks.{HasTalked}
use Rattle.apex_steps.proofs.conversations.converse.Given as goal

abbrev pub invariant-loop-desk : goal.invariant-loop-desk
invariant-loop-desk g l = record {
  talked : HasTalked l.fn.form l.fn.session l.session
      (ports (prepend_known l.fn.pending (g.R.Source.remaining (inner_of l.fn.reader))) (g.W.Sink.contents (inner_of l.fn.writer))
      (failures_of l.fn.reader) (failures_of l.fn.writer))
      (ports (prepend_known l.pending (g.R.Source.remaining (inner_of l.reader))) (g.W.Sink.contents (inner_of l.writer))
      (failures_of l.reader) (failures_of l.writer));
  empty : l.desk.lines.items ≡ [];
}

abbrev pub decreases-loop-desk : goal.decreases-loop-desk
decreases-loop-desk g l = fuel l.pending (reads_left_of l.reader)
