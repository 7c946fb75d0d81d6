-- The report is that of the entries so far.
use Rattle.std.proofs.Common.{◌≡◌, ◌++◌}
use Rattle.apex_report.specs.Report.{report}
use Rattle.apex_report.proofs.reports.report_of.Given as goal

abbrev pub invariant-loop-entry : goal.invariant-loop-entry
invariant-loop-entry l = record {
  split : l.fn.entries ≡ l.yielded ++ l.entry-iterator;
  made : l.made ≡ report l.table l.yielded;
}
