-- The ways in which a run by threads ends, by the fault.
use Rattle.std.proofs.Common.{◌≡◌, inl, inr, List, ℕ, Bool, Some}
use Rattle.std.specs.Io.KnownBytes.{Keeps}
use Rattle.apex_table.specs.Reading.{table_of}
use Rattle.apex_history.specs.Counted.{CountsFault}
use Rattle.apex_history.specs.Ports.{IsLeft, NoneFails, Ports}
use Rattle.apex_history.specs.declared.ReadFault.{ReadFault}
use Rattle.apex_history.specs.declared.ReadFault.TheVariants as read
use Rattle.apex_console.specs.declared.CliFault.{CliFault}
use Rattle.apex_console.specs.Faults.{fault_of_read}
use Rattle.apex_cli.specs.Runs.{RefusesRun, Runs, no_room, no_thread, refused, unread}

-- a run over bytes that were not read
pub runs_unread : {turns ticks : ℕ} {with_front : Bool} {before after : Ports} → (fault : ReadFault)
    → CountsFault fault before.failed_reads after.failed_reads → after.failed_writes ≡ before.failed_writes
    → Keeps before.held after.held → Runs turns ticks with_front before (Some (fault_of_read fault)) after
runs_unread read.Memory counts same held = no_room held (counts, same)
runs_unread read.Read counts same held = unread held (counts, same)

-- a run that came to nothing
pub runs_refused : {turns ticks : ℕ} {with_front : Bool} {before after : Ports} → (bytes : List ℕ) (fault : CliFault)
    → IsLeft bytes before → RefusesRun fault (table_of bytes) → Keeps before.held after.held
    → NoneFails before after → Runs turns ticks with_front before (Some fault) after
runs_refused bytes fault left (inl e) held fails = rw e (no_room held fails)
runs_refused bytes fault left (inr (inl (e, read))) held fails = rw e (no_thread bytes left read held fails)
runs_refused bytes fault left (inr (inr e)) held fails = refused bytes left e held fails
