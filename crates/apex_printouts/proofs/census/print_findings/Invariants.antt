-- The writer has the lines so far, and no write failed.
use Rattle.std.proofs.Common.{◌≡◌, take, flat_map}
use Rattle.std.specs.Io.KnownBytes.{Appends}
use Rattle.apex_history.specs.Counted.{inner_of, failures_of}
use Rattle.apex_printouts.specs.Censuses.{finding_line}
use Rattle.apex_printouts.proofs.census.print_findings.Given as goal

abbrev pub invariant-loop-finding : goal.invariant-loop-finding
invariant-loop-finding g l = record {
  lines : Appends (g.W.Sink.contents (inner_of l.fn.writer)) (g.W.Sink.contents (inner_of l.writer))
      (flat_map finding_line (take l.finding-index l.findings));
  failures : failures_of l.writer ≡ failures_of l.fn.writer;
}
