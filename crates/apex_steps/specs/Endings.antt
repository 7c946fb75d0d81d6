-- The ends of a conversation, and of a whole session.
use Rattle.std.specs.Prelude.{ℕ, List, Result, Ok, Err}
use Rattle.std.specs.Io.KnownBytes.{Appends, Keeps}
use Rattle.apex_json.specs.declared.Form.{Form}
use Rattle.apex_machine.specs.table.Table.{Table}
use Rattle.apex_history.specs.Counted.{AppendsBeginning}
use Rattle.apex_history.specs.Ports.{Ports, NoneFails, AReadFails, AWriteFails, IsLeft}
use Rattle.apex_check.specs.Leading.{LacksTable}
use Rattle.apex_check.specs.Texts.{BeginsWithTable}
use Rattle.apex_check.specs.declared.LeadingFault.{LeadingFault}
use Rattle.apex_steps.specs.Conversations.{said}
use Rattle.apex_steps.specs.Faults.{fault_of_leading}
use Rattle.apex_steps.specs.Sessions.{Session, opening_session}
use Rattle.apex_steps.specs.declared.faults.StepFault.{StepFault}
use Rattle.apex_steps.specs.declared.faults.StepFault.TheVariants.{Memory, Read, Write}

-- memory was refused, or a read or a write failed, as the fault says
abbrev pub IsCutOff : StepFault → Ports → Ports → Type 0
IsCutOff Memory before after = NoneFails before after
IsCutOff Read before after = AReadFails before after
IsCutOff Write before after = AWriteFails before after
IsCutOff fault before after = ⊥

-- How a conversation ends: all lines up to the end were answered; or a read or a write failed, or
-- memory was refused, and a prefix of the answers was written.
abbrev pub Converses : Form → Session → Ports → Result (Unit {0}) StepFault → Ports → Type 0
Converses form session before (Ok done) after =
    (text : List ℕ) × IsLeft text before × Appends before.held after.held (said form text session)
    × NoneFails before after
Converses form session before (Err fault) after =
    (text : List ℕ) × IsLeft text before
    × AppendsBeginning before.held after.held (said form text session) × IsCutOff fault before after

-- The ways in which a whole session ends: by the reader and the writer before, the end, and the
-- reader and the writer afterwards.
pub data Serves (form : Form) (before : Ports) : Result (Unit {0}) StepFault → Ports → Type 0 where
  -- memory was refused before the first command: nothing was written
  no_memory : {after : Ports} → Keeps before.held after.held → NoneFails before after
      → Serves form before (Err Memory) after
  -- a read failed before the first command: nothing was written
  unread : {after : Ports} → Keeps before.held after.held → AReadFails before after
      → Serves form before (Err Read) after
  -- the text has no table or no separator: nothing was written
  refused : (text : List ℕ) → {fault : LeadingFault} {after : Ports} → IsLeft text before
      → LacksTable text fault → Keeps before.held after.held → NoneFails before after
      → Serves form before (Err (fault_of_leading fault)) after
  -- all lines up to the end were answered
  answered : (text behind : List ℕ) (table : Table) → {after : Ports} → IsLeft text before
      → BeginsWithTable text table behind
      → Appends before.held after.held (said form behind (opening_session table))
      → NoneFails before after → Serves form before (Ok tt) after
  -- a read or a write failed, or memory was refused: a prefix of the answers was written
  cut_off : (text behind : List ℕ) (table : Table) → {fault : StepFault} {after : Ports}
      → IsLeft text before → BeginsWithTable text table behind
      → AppendsBeginning before.held after.held (said form behind (opening_session table))
      → IsCutOff fault before after → Serves form before (Err fault) after
