-- The writer has the rows so far, and no write failed.
use Rattle.std.proofs.Common.{◌≡◌, take, flat_map}
use Rattle.std.specs.Io.KnownBytes.{Appends}
use Rattle.apex_history.specs.Counted.{inner_of, failures_of}
use Rattle.apex_report.specs.Rows.{behind_text}
use Rattle.apex_report.proofs.printing.print_rows.Given as goal

abbrev pub invariant-loop-figures : goal.invariant-loop-figures
invariant-loop-figures g l = record {
  lines : Appends (g.W.Sink.contents (inner_of l.fn.writer)) (g.W.Sink.contents (inner_of l.writer))
      (flat_map (behind_text l.form (g.F.Figures.text l.form l.table)) (take l.figures-index l.rows));
  failures : failures_of l.writer ≡ failures_of l.fn.writer;
}
