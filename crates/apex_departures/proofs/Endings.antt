-- The ways in which an explanation ends.
use Rattle.std.proofs.Common.{◌≡◌, Bool, Err}
use Rattle.std.specs.Io.KnownBytes.{Keeps}
use Rattle.apex_json.specs.declared.Form.{Form}
use Rattle.apex_history.specs.Counted.{CountsFault}
use Rattle.apex_history.specs.Ports.{Ports}
use Rattle.apex_history.specs.declared.reading.ReadFault.{ReadFault}
use Rattle.apex_history.specs.declared.reading.ReadFault.TheVariants as read_fault
use Rattle.apex_departures.specs.Ends.{Ends, no_memory, unread}
use Rattle.apex_departures.specs.Explained.{fault_of_reading}

pub ends_unread : (form : Form) (comments : Bool) (before after : Ports) (fault : ReadFault) → CountsFault fault before.failed_reads after.failed_reads
    → after.failed_writes ≡ before.failed_writes → Keeps before.held after.held → Ends form comments before (Err (fault_of_reading fault)) after
ends_unread form comments before after read_fault.Memory counted writes keeps = no_memory keeps (counted, writes)
ends_unread form comments before after read_fault.Read counted writes keeps = unread keeps (counted, writes)
