-- The dump of the run before a departure.
use Rattle.apex_lab_cli.specs.Dumps.{ran_before}
use Rattle.apex_lab_cli.proofs.dumping.dump_before.Goals as goal

pub returns : goal.returns
returns g c = rw c.behind.ensures (ran_before _ _ _ c.write_dump-ending.ensures)
