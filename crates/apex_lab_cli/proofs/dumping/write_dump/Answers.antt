-- The dump that was written is that of the run.
use Rattle.std.proofs.KnownBytes.{Keeps-refl}
use Rattle.apex_lab_cli.specs.Dumps.{dumped, no_memory, unwritten}
use Rattle.apex_lab_cli.proofs.dumping.write_dump.Goals as goal

pub returns-in_default : goal.returns-in_default
returns-in_default g c = no_memory (Keeps-refl _)

pub returns-in-Ok-print_waves : goal.returns-in-Ok-print_waves
returns-in-Ok-print_waves g c =
    let is = c.in-Ok.ensures in
    rw (c.ending_with.ensures, c.in-Ok-print_waves.ensures.counted)
    (dumped (rw is.table_is at (rw is.same at (rw c.as_slice-events.ensures.value at c.in-Ok-print_waves.ensures.ok))))

pub returns : goal.returns
returns g c =
    let is = c.in-Ok.ensures in
    rw c.in-Err.ensures.counted
    (unwritten (rw is.table_is at (rw is.same at (rw c.as_slice-events.ensures.value at c.in-Err.ensures.err))))
