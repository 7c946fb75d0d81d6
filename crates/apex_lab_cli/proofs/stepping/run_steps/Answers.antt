-- How the program ends is how the session did.
use Rattle.std.proofs.Common.{Ok, Err, refl}
use Rattle.apex_lab_cli.proofs.stepping.run_steps.Goals as goal

pub returns-in-Ok : goal.returns-in-Ok
returns-in-Ok g c = (Ok tt, refl, rw c.in-Ok.is at c.serve_steps.ensures)

pub returns-in-Err : goal.returns-in-Err
returns-in-Err g c = (Err c.in-Err.fault, rw c.fault_of.ensures refl, rw c.in-Err.is at c.serve_steps.ensures)
