-- The text of the row is that of the thing.
use Rattle.apex_services.proofs.listing.Listing.gather.Goals as goal

pub returns-in-Some-clause-err : goal.returns-in-Some-clause-err
returns-in-Some-clause-err g c = rw (c.in-Some.ensures.1, ← c.self.view_is) c.gather_row.ensures.err
