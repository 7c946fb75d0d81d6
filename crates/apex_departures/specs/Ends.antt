-- The ends of an explanation.
use Rattle.std.specs.Prelude.{Bool, ℕ, List, Result, Ok, Err}
use Rattle.std.specs.Io.KnownBytes.{Appends, Keeps}
use Rattle.apex_json.specs.declared.Form.{Form}
use Rattle.apex_history.specs.Counted.{AppendsBeginning}
use Rattle.apex_history.specs.Ports.{Ports, NoneFails, AReadFails, AWriteFails, IsLeft}
use Rattle.apex_check.specs.declared.verdicts.Verdict.{Verdict}
use Rattle.apex_check.specs.declared.verdicts.CheckFault.{CheckFault}
use Rattle.apex_check.specs.declared.verdicts.CheckFault.TheVariants.{Memory, Read, Write}
use Rattle.apex_departures.specs.Explained.{IsExplained, IsRefused}

-- The ways in which an explanation ends: by the reader and the writer before, the answer, and the
-- reader and the writer afterwards.
pub data Ends (form : Form) (comments : Bool) (before : Ports) : Result Verdict CheckFault → Ports
    → Type 0 where
  -- memory was refused: nothing was written
  no_memory : {after : Ports} → Keeps before.held after.held → NoneFails before after
      → Ends form comments before (Err Memory) after
  -- a read failed: nothing was written
  unread : {after : Ports} → Keeps before.held after.held → AReadFails before after
      → Ends form comments before (Err Read) after
  -- the text has a fault: nothing was written
  refused : (text : List ℕ) → {fault : CheckFault} {after : Ports} → IsLeft text before
      → IsRefused comments text fault → Keeps before.held after.held → NoneFails before after
      → Ends form comments before (Err fault) after
  -- the explanation was written
  written : (text page : List ℕ) → {verdict : Verdict} {after : Ports} → IsLeft text before
      → IsExplained form comments text verdict page → Appends before.held after.held page
      → NoneFails before after → Ends form comments before (Ok verdict) after
  -- a write failed: a prefix of the explanation was written
  unwritten : (text page : List ℕ) (verdict : Verdict) → {after : Ports} → IsLeft text before
      → IsExplained form comments text verdict page → AppendsBeginning before.held after.held page
      → AWriteFails before after → Ends form comments before (Err Write) after
