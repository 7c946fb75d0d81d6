-- The listing is written whole, and nothing of it is held.
use Rattle.apex_steps.proofs.Written.{passes_all_by}
use Rattle.apex_steps.proofs.desks.Desk.list.Goals as goal

pub returns-in-Text-clause-ok : goal.returns-in-Text-clause-ok
returns-in-Text-clause-ok g c = rw c.in-Text.is (passes_all_by c.print_status.result _ _ _ _ c.requires c.print_status.ensures.ok)

pub returns-in-Text-clause-err : goal.returns-in-Text-clause-err
returns-in-Text-clause-err g c = rw c.in-Text.is c.print_status.ensures.err

pub returns-in-Json-clause-ok : goal.returns-in-Json-clause-ok
returns-in-Json-clause-ok g c =
    rw c.in-Json.is (passes_all_by c.print_listing_objects.result _ _ _ _ c.print_listing_objects.ensures.empty c.print_listing_objects.ensures.ok)

pub returns-in-Json-clause-err : goal.returns-in-Json-clause-err
returns-in-Json-clause-err g c = rw c.in-Json.is c.print_listing_objects.ensures.err
