-- The entry that the verdict shows is the machine's.
use Rattle.apex_departures.proofs.Following.{shows_event}
use Rattle.apex_departures.proofs.explaining.put_explained.Goals as goal

pub told-requires-clause-shows : goal.told-requires-clause-shows
told-requires-clause-shows c =
    let (text, ahead, found) = c.in-Ok.ensures.ok in
    shows_event text c.in-Ok.followed.kernel.table c.in-Ok.followed.verdict c.in-Ok.followed.kernel.machine found
