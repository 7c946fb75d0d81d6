-- The ways in which a session ends.
use Rattle.std.proofs.Common.{◌≡◌, ℕ, List, ◌++◌, Option, Result, Ok, Err, refl, subst}
use Rattle.std.specs.Io.KnownBytes.{Consumes, Keeps}
use Rattle.apex_json.specs.declared.Form.{Form}
use Rattle.apex_machine.specs.table.Table.{Table}
use Rattle.apex_table.specs.Reading.{table_of}
use Rattle.apex_history.specs.Ports.{IsLeft, Ports, ports}
use Rattle.apex_check.specs.declared.LeadingFault.{LeadingFault}
use Rattle.apex_check.specs.declared.LeadingFault.TheVariants as leading
use Rattle.apex_incoming.specs.Ahead.{IsAhead}
use Rattle.apex_check.specs.Leading.{CountsLeadingRead, IsLeadingFaultOf}
use Rattle.apex_check.specs.Texts.{BeginsWithTable, IsTableText, separator}
use Rattle.apex_incoming.specs.Lines.{ended}
use Rattle.apex_incoming.proofs.Coming.{ahead_more}
use Rattle.apex_steps.specs.Endings.{Converses, IsCutOff, Serves, answered, cut_off, no_memory, refused, unread}
use Rattle.apex_steps.specs.Faults.{fault_of_leading}
use Rattle.apex_steps.specs.Sessions.{opening_session}
use Rattle.apex_steps.specs.declared.faults.StepFault.{StepFault}
use Rattle.apex_steps.specs.declared.faults.StepFault.TheVariants.{Memory, NoSeparator, Read, Write, Table as BadTable}

-- before the first command
pub ends_early : {form : Form} → {before after : Ports} → (fault : LeadingFault) → IsLeadingFaultOf before.left fault
    → CountsLeadingRead fault before.failed_reads after.failed_reads → after.failed_writes ≡ before.failed_writes
    → Keeps before.held after.held → Serves form before (Err (fault_of_leading fault)) after
ends_early leading.Memory found counts same held = no_memory held (counts, same)
ends_early leading.Read found counts same held = unread held (counts, same)
ends_early fault (text, ahead, at) counts same held = refused text ahead at held (counts, same)

-- the bytes that are left count for nothing
module _ (before after : Ports) (mid end : Option (List ℕ)) where
  abbrev from : Ports
  from = ports mid before.held before.failed_reads before.failed_writes

  abbrev to : Ports
  to = ports end after.held after.failed_reads after.failed_writes

  cut_anew : (fault : StepFault) → IsCutOff fault from to → IsCutOff fault before after
  cut_anew Memory cut = cut
  cut_anew Read cut = cut
  cut_anew Write cut = cut
  cut_anew (BadTable fault) cut = cut
  cut_anew NoSeparator cut = cut

-- behind this table
module _ (front : List ℕ) (table : Table) (known mid : Option (List ℕ)) (lines : IsTableText front) (reads : table_of front ≡ Ok table)
    (taken : Consumes known mid (front ++ ended separator)) where
  whole_text : (before : Ports) (behind : List ℕ) → known ≡ before.left → IsAhead behind mid → IsLeft (front ++ ended separator ++ behind) before
  whole_text before behind same ahead =
      subst (λ (k : Option (List ℕ)). IsAhead (front ++ ended separator ++ behind) k) same
      (ahead_more known mid (front ++ ended separator) behind taken ahead)

  begins : (behind : List ℕ) → BeginsWithTable (front ++ ended separator ++ behind) table behind
  begins behind = (front, (lines, refl), reads)

  pub ends_conversed : {form : Form} → (before after : Ports) (end : Option (List ℕ)) (result : Result (Unit {0}) StepFault) → known ≡ before.left
      → Converses form (opening_session table) (from before after mid end) result (to before after mid end) → Serves form before result after
  ends_conversed before after end (Ok tt) same (behind, ahead, appends, none) =
      answered _ behind table (whole_text before behind same ahead) (begins behind) appends none
  ends_conversed before after end (Err fault) same (behind, ahead, begun, cut) =
      cut_off _ behind table (whole_text before behind same ahead) (begins behind) begun (cut_anew before after mid end fault cut)
