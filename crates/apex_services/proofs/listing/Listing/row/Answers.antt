-- A process is listed at its place.
use Rattle.apex_services.proofs.listing.Listing.row.Goals as goal

pub returns-in-Processes : goal.returns-in-Processes
returns-in-Processes g c = rw c.in-Processes.is (rw c.at.ensures at c.process.ensures)
