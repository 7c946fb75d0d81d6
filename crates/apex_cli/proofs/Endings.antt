-- The ways in which the program ends, by the fault.
use Rattle.std.proofs.Common.{◌≡◌, ◌∙◌, ap, inl, inr, List, ℕ, Bool, Option, None, Some}
use Rattle.std.specs.Io.KnownBytes.{Appends, Keeps}
use Rattle.apex_machine.specs.Machine.{Machine}
use Rattle.apex_machine.specs.table.Table as tables
use Rattle.apex_history.specs.Counted.{AppendsBeginning, CountsFault}
use Rattle.apex_history.specs.Ports.{AWriteFails, IsLeft, NoneFails, Ports}
use Rattle.apex_history.specs.declared.ReadFault.{ReadFault}
use Rattle.apex_history.specs.declared.ReadFault.TheVariants as read
use Rattle.apex_schedules.specs.declared.Item.{Item}
use Rattle.apex_console.specs.declared.CliFault.{CliFault}
use Rattle.apex_console.specs.declared.CliFault.TheVariants.{Usage, Write}
use Rattle.apex_console.specs.declared.Report.{Report}
use Rattle.apex_cli.specs.Exits.{Ends, Reports, no_memory, no_room, ran, refused, reported, unread, unwritten, usage, written}
use Rattle.apex_cli.specs.Runs.{Runs}
use Rattle.apex_console.specs.Faults.{IsUsageOrMemory, fault_of_read, status_of_fault}
use Rattle.apex_cli.specs.Statuses.{status_of}
use Rattle.apex_console.specs.Reports.{Refuses, answer_of, report_text, runs_to}
use Rattle.apex_cli.specs.Requests.{Asked, a_report, a_run}

-- words or a schedule that ask for nothing, or no memory
pub ends_unasked : {asked : Option Asked} {before after : Ports} → (fault : CliFault) → IsUsageOrMemory fault
    → (fault ≡ Usage → asked ≡ None) → Keeps before.left after.left → Keeps before.held after.held
    → NoneFails before after → Ends asked before (status_of_fault fault) (Some fault) after
ends_unasked fault (inl e) none left held fails = rw e (usage (none e) left held fails)
ends_unasked fault (inr e) none left held fails = rw e (no_memory held fails)

-- a report of bytes that were not read
pub reports_unread : {report : Report} {items : List Item} {before after : Ports} → (fault : ReadFault)
    → CountsFault fault before.failed_reads after.failed_reads → after.failed_writes ≡ before.failed_writes
    → Keeps before.held after.held → Reports report items before (Some (fault_of_read fault)) after
reports_unread read.Memory counts same held = no_room held (counts, same)
reports_unread read.Read counts same held = unread held (counts, same)

-- a report of bytes that are refused
pub reports_refused : {report : Report} {items : List Item} {before after : Ports} → (bytes : List ℕ) (fault : CliFault)
    → IsLeft bytes before → Refuses fault (answer_of items bytes) → Keeps before.held after.held
    → NoneFails before after → Reports report items before (Some fault) after
reports_refused bytes fault left (inl e) held fails = rw e (no_room held fails)
reports_refused bytes fault left (inr e) held fails = refused bytes left e held fails

-- a report that was written, or not to its end
module _ {report : Report} {items : List Item} {before after : Ports} (bytes : List ℕ) (table : tables.Table) (machine : Machine)
    (answered : Option CliFault) (left : IsLeft bytes before) (answer : answer_of items bytes ≡ runs_to table machine answered) where
  pub reports_written : (fault : Option CliFault) → answered ≡ fault → Appends before.held after.held (report_text report table machine)
      → NoneFails before after → Reports report items before fault after
  reports_written fault same appends fails =
      written bytes table machine left (answer ∙ ap (runs_to table machine) same) appends fails

  pub reports_unwritten : AppendsBeginning before.held after.held (report_text report table machine) → AWriteFails before after
      → Reports report items before (Some Write) after
  reports_unwritten appends fails = unwritten bytes table machine left answer appends fails

-- a run that is reported
pub ends_reported : {asked : Option Asked} {before after : Ports} {report : Report} (items shown : List Item) (fault : Option CliFault)
    → asked ≡ Some (a_report report items) → shown ≡ items → Reports report shown before fault after
    → Ends asked before (status_of fault) fault after
ends_reported items shown fault is same ends = reported is (rw same at ends)

-- threads that ran
pub ends_ran : {asked : Option Asked} {before after : Ports} {turns ticks : ℕ} {with_front : Bool} (fault : Option CliFault)
    → asked ≡ Some (a_run turns ticks with_front) → Runs turns ticks with_front before fault after
    → Ends asked before (status_of fault) fault after
ends_ran fault is ends = ran is ends
