-- The first events are of the table's cores.
use Rattle.apex_views.proofs.Before.{take_within}
use Rattle.apex_views.proofs.departures.events_before.Goals as goal

pub returns-clause-within : goal.returns-clause-within
returns-clause-within g c = rw (c.truncate.ensures.items, c.in_ok-events.ensures) (take_within _ _ _ c.holds.ensures.events)
