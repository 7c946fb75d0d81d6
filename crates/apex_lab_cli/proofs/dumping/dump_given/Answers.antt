-- There is a departure behind the run, or there is none.
use Rattle.apex_lab_cli.specs.Dumps.{ran}
use Rattle.apex_lab_cli.proofs.dumping.dump_given.Goals as goal

pub returns-in-None : goal.returns-in-None
returns-in-None g c = rw c.in-None.is (ran _ _ _ c.write_dump.ensures)

pub returns-in-Some : goal.returns-in-Some
returns-in-Some g c = rw c.in-Some.is c.dump_before.ensures
