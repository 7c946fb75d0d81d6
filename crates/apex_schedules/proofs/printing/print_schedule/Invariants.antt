-- No write failed so far; of the text the writer has a prefix, and what it lacks is gathered or is
-- the text of the events that are left.
use Rattle.std.proofs.Common.{◌≡◌, ◌++◌, length}
use Rattle.apex_history.specs.Counted.{inner_of, failures_of}
use Rattle.apex_history.specs.Page.{Passes}
use Rattle.apex_schedules.specs.Printing.{schedule_text}
use Rattle.apex_schedules.proofs.printing.print_schedule.Given as goal

abbrev pub invariant-loop-rest : goal.invariant-loop-rest
invariant-loop-rest g l = record {
  text : Passes (g.W.Sink.contents (inner_of l.fn.writer)) (g.W.Sink.contents (inner_of l.writer)) (schedule_text l.fn.events) (l.text.items ++ schedule_text l.rest);
  failures : failures_of l.writer ≡ failures_of l.fn.writer;
}

abbrev pub decreases-loop-rest : goal.decreases-loop-rest
decreases-loop-rest g l = length l.rest
