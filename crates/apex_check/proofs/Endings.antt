-- The ways in which a check ends, by the fault and by the verdict.
use Rattle.std.proofs.Common.{◌≡◌, ℕ, List, [], ◌∷◌, ◌++◌, length, Option, None, Some, Ok, Err, refl, sym}
use Rattle.std.specs.Io.KnownBytes.{Appends, Consumes, Keeps, prepend_known}
use Rattle.apex_machine.specs.table.Table.{Table}
use Rattle.apex_machine.specs.Machine.{Machine, events_of, replay}
use Rattle.apex_table.specs.Reading.{table_of}
use Rattle.apex_history.specs.Counted.{AppendsBeginning}
use Rattle.apex_history.specs.Ports.{AWriteFails, NoneFails, Ports}
use Rattle.apex_check.specs.declared.verdicts.Verdict.{Verdict}
use Rattle.apex_check.specs.declared.verdicts.CheckFault.{CheckFault}
use Rattle.apex_check.specs.declared.verdicts.CheckFault.TheVariants.{Memory, Read, Write}
use Rattle.apex_incoming.specs.Ahead.{IsAhead}
use Rattle.apex_check.specs.Checks.{Checks, no_memory, refused, unread, unwritten, written}
use Rattle.apex_check.specs.Faults.{CountsRead, IsFaultOf}
use Rattle.apex_check.specs.Leading.{CountsLeadingRead, IsLeadingFaultOf, without_separator, without_table}
use Rattle.apex_check.specs.TableFaults.{fault_of_leading}
use Rattle.apex_check.specs.declared.tables.LeadingFault.{LeadingFault}
use Rattle.apex_check.specs.declared.tables.LeadingFault.TheVariants as leading
use Rattle.apex_check.specs.Steps.{IsLineFaultOf}
use Rattle.apex_check.specs.Texts.{IsTableText, separator}
use Rattle.apex_incoming.specs.Lines.{ended}
use Rattle.apex_check.specs.Verdicts.{HasFollowed, JudgesLines, at_line, no_separator, no_table, verdict_text}
use Rattle.apex_incoming.proofs.Coming.{ahead_more}

-- nothing was read ahead
pub nothing_ahead : (pending : List ℕ) (left : Option (List ℕ)) → length pending ≡ 0 → prepend_known pending left ≡ left
nothing_ahead [] None none = refl
nothing_ahead [] (Some xs) none = refl
nothing_ahead (x ∷ xs) left none = cc

-- a text that lacks its table is at fault
pub lacks_table : (known : Option (List ℕ)) (fault : LeadingFault) → IsLeadingFaultOf known fault → IsFaultOf known (fault_of_leading fault)
lacks_table known leading.Memory found = tt
lacks_table known leading.Read found = tt
lacks_table known leading.NoSeparator (text, ahead, without_separator none) = (text, ahead, no_separator none)
lacks_table known (leading.Table fault) (text, ahead, without_table front behind parted reads other) =
    (text, ahead, no_table front behind parted reads other)

pub counts_leading : (fault : LeadingFault) (old new : ℕ) → CountsLeadingRead fault old new → CountsRead (fault_of_leading fault) old new
counts_leading leading.Memory old new same = same
counts_leading leading.Read old new more = more
counts_leading leading.NoSeparator old new same = same
counts_leading (leading.Table fault) old new same = same

-- a fault before the lines
pub ends_early : {before after : Ports} → (fault : CheckFault) → IsFaultOf before.left fault
    → CountsRead fault before.failed_reads after.failed_reads → after.failed_writes ≡ before.failed_writes
    → Keeps before.held after.held → Checks before (Err fault) after
ends_early Memory found counts same held = no_memory held (counts, same)
ends_early Read found counts same held = unread held (counts, same)
ends_early fault (text, ahead, at) counts same held = refused text ahead at held (counts, same)

-- behind this table
module _ (front : List ℕ) (table : Table) (known mid : Option (List ℕ)) (lines : IsTableText front) (reads : table_of front ≡ Ok table)
    (taken : Consumes known mid (front ++ ended separator)) where
  whole_text : (behind : List ℕ) → IsAhead behind mid → IsAhead (front ++ ended separator ++ behind) known
  whole_text behind ahead = ahead_more known mid (front ++ ended separator) behind taken ahead

  -- a line at fault
  pub fault_ahead : (fault : CheckFault) → IsLineFaultOf table mid fault → IsFaultOf known fault
  fault_ahead Memory found = tt
  fault_ahead Read found = tt
  fault_ahead fault (behind, ahead, at) =
      (front ++ ended separator ++ behind, whole_text behind ahead, at_line table behind (front, (lines, refl), reads) at)

  -- a verdict, and the machine that gave it
  pub followed : (verdict : Verdict) (machine : Machine) → replay table machine.history ≡ machine
      → ((text : List ℕ) × IsAhead text mid × JudgesLines table text verdict (events_of machine.history))
      → (text : List ℕ) × IsAhead text known × HasFollowed text table verdict machine
  followed verdict machine again (behind, ahead, judged) = (
    front ++ ended separator ++ behind,
    whole_text behind ahead,
    record { events = events_of machine.history; judges = (behind, (front, (lines, refl), reads), judged); ran = sym again },
  )

-- a verdict that was written, or not to its end
module _ (table : Table) (machine : Machine) (verdict : Verdict) where
  pub ends_written : {before after : Ports} → ((text : List ℕ) × IsAhead text before.left × HasFollowed text table verdict machine)
      → Appends before.held after.held (verdict_text table verdict) → NoneFails before after → Checks before (Ok verdict) after
  ends_written (text, ahead, found) appends fails = written text table ahead (found.events, found.judges) appends fails

  pub ends_unwritten : {before after : Ports} → ((text : List ℕ) × IsAhead text before.left × HasFollowed text table verdict machine)
      → AppendsBeginning before.held after.held (verdict_text table verdict) → AWriteFails before after → Checks before (Err Write) after
  ends_unwritten (text, ahead, found) appends fails = unwritten text table verdict ahead (found.events, found.judges) appends fails
