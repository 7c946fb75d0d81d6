-- A table that is linted, and how the program ends.
use Rattle.std.specs.Prelude.{ℕ, List}
use Rattle.std.specs.Io.KnownBytes.{Appends, Keeps}
use Rattle.apex_history.specs.Counted.{AppendsBeginning}
use Rattle.apex_history.specs.Ports.{AReadFails, AWriteFails, NoneFails, Ports}
use Rattle.apex_incoming.specs.Ahead.{IsAhead}
use Rattle.apex_console.specs.declared.CliFault.TheVariants.{Memory, Read, Write}
use Rattle.apex_lint.specs.Reports.{IsReportOn}
use Rattle.apex_lint.specs.declared.Report.{Report}
use Rattle.apex_lint.specs.declared.LintVerdict.{LintVerdict}
use Rattle.apex_lint.specs.declared.LintVerdict.TheVariants.{Accepted, Warned, Refused}
use Rattle.apex_lab_cli.specs.Ends.{End, complete, fails, refuses, warns}
use Rattle.apex_lab_cli.specs.declared.faults.LabFault.TheVariants.{Common}
use Rattle.apex_tasks.specs.Lints.{Lint}

-- the end with this verdict
abbrev pub end_with : LintVerdict → End
end_with Accepted = complete
end_with Warned = warns
end_with Refused = refuses

-- The ways in which a lint ends: by what it is asked for, the reader and the writer before, the end,
-- and the reader and the writer afterwards.
pub data LintEnds (lint : Lint) (before : Ports) : End → Ports → Type 0 where
  -- memory was refused: nothing was written
  no_memory : {after : Ports} → Keeps before.held after.held → NoneFails before after
      → LintEnds lint before (fails (Common Memory)) after
  -- a read failed: nothing was written
  unread : {after : Ports} → Keeps before.held after.held → AReadFails before after
      → LintEnds lint before (fails (Common Read)) after
  -- the whole report on the bytes that were read was written
  reported : (bytes : List ℕ) (report : Report) → {after : Ports} → IsAhead bytes before.left
      → IsReportOn lint.form lint.file lint.allowed bytes report
      → Appends before.held after.held report.text.items → NoneFails before after
      → LintEnds lint before (end_with report.verdict) after
  -- a write failed: a prefix of the report was written
  unwritten : (bytes : List ℕ) (report : Report) → {after : Ports} → IsAhead bytes before.left
      → IsReportOn lint.form lint.file lint.allowed bytes report
      → AppendsBeginning before.held after.held report.text.items → AWriteFails before after
      → LintEnds lint before (fails (Common Write)) after
