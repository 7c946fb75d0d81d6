-- The fault of the writing comes first, and then that of the run.
use Rattle.apex_console.specs.Faults.{fault_in}
use Rattle.apex_views.proofs.listings.list.Goals as goal

pub returns : goal.returns
returns g c = (fault_in c.write_listing-shown.result, c.write_listing-shown.ensures, c.first_fault.ensures)
