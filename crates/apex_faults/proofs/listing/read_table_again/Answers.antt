use Rattle.std.proofs.Common.{arith}
use Rattle.apex_faults.proofs.Mendings.{printed_as}
use Rattle.apex_faults.proofs.listing.read_table_again.Goals as goal

pub returns-in_ok-fault_in-in-Some-clause-some : goal.returns-in_ok-fault_in-in-Some-clause-some
returns-in_ok-fault_in-in-Some-clause-some c = grind (arith, printed_as)
