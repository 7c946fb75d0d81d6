-- The ends of a check.
use Rattle.std.specs.Prelude.{ℕ, List, Result, Ok, Err}
use Rattle.std.specs.Io.KnownBytes.{Appends, Keeps}
use Rattle.apex_machine.specs.table.Table.{Table}
use Rattle.apex_history.specs.Counted.{AppendsBeginning}
use Rattle.apex_history.specs.Ports.{Ports, NoneFails, AReadFails, AWriteFails, IsLeft}
use Rattle.apex_check.specs.declared.verdicts.Verdict.{Verdict}
use Rattle.apex_check.specs.declared.verdicts.CheckFault.{CheckFault}
use Rattle.apex_check.specs.declared.verdicts.CheckFault.TheVariants.{Memory, Read, Write}
use Rattle.apex_check.specs.Verdicts.{IsAtFault, Judges, verdict_text}

-- The ways in which a check ends: by the reader and the writer before, the answer, and the reader
-- and the writer afterwards.
pub data Checks (before : Ports) : Result Verdict CheckFault → Ports → Type 0 where
  -- memory was refused: nothing was written
  no_memory : {after : Ports} → Keeps before.held after.held → NoneFails before after
      → Checks before (Err Memory) after
  -- a read failed: nothing was written
  unread : {after : Ports} → Keeps before.held after.held → AReadFails before after
      → Checks before (Err Read) after
  -- the text has a fault: nothing was written
  refused : (text : List ℕ) → {fault : CheckFault} {after : Ports} → IsLeft text before
      → IsAtFault text fault → Keeps before.held after.held → NoneFails before after
      → Checks before (Err fault) after
  -- the verdict was written
  written : (text : List ℕ) (table : Table) → {verdict : Verdict} {after : Ports}
      → IsLeft text before
      → Judges text table verdict → Appends before.held after.held (verdict_text table verdict)
      → NoneFails before after → Checks before (Ok verdict) after
  -- a write failed: a prefix of the verdict's text was written
  unwritten : (text : List ℕ) (table : Table) (verdict : Verdict) → {after : Ports}
      → IsLeft text before
      → Judges text table verdict
      → AppendsBeginning before.held after.held (verdict_text table verdict)
      → AWriteFails before after → Checks before (Err Write) after
