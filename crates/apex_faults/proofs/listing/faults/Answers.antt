use Rattle.std.proofs.Common.{arith}
use Rattle.apex_faults.proofs.Mendings.{begins, few}
use Rattle.apex_faults.proofs.listing.faults.Goals as goal

pub returns-in-Some-clause-first : goal.returns-in-Some-clause-first
returns-in-Some-clause-first c = grind (arith, begins)

pub returns-in-Some-clause-few : goal.returns-in-Some-clause-few
returns-in-Some-clause-few c = grind (arith, few)

pub returns-clause-first : goal.returns-clause-first
returns-clause-first c = grind (arith, begins)
