-- The ways in which a lint ends, by what was at fault.
use Rattle.std.proofs.Common.{◌≡◌}
use Rattle.std.specs.Io.KnownBytes.{Keeps}
use Rattle.apex_console.specs.Faults.{fault_of_read}
use Rattle.apex_history.specs.Counted.{CountsFault}
use Rattle.apex_history.specs.Ports.{Ports}
use Rattle.apex_history.specs.declared.ReadFault.{ReadFault}
use Rattle.apex_history.specs.declared.ReadFault.TheVariants as read
use Rattle.apex_lab_cli.specs.Ends.{fails}
use Rattle.apex_lab_cli.specs.Lints.{LintEnds, no_memory, unread}
use Rattle.apex_lab_cli.specs.declared.faults.LabFault.TheVariants.{Common}
use Rattle.apex_tasks.specs.Lints.{Lint}

-- bytes that were not read
pub lint_unread : {lint : Lint} {before after : Ports} (fault : ReadFault)
    → CountsFault fault before.failed_reads after.failed_reads → Keeps before.held after.held
    → after.failed_writes ≡ before.failed_writes → LintEnds lint before (fails (Common (fault_of_read fault))) after
lint_unread read.Memory counts held writes = no_memory held (counts, writes)
lint_unread read.Read counts held writes = unread held (counts, writes)
