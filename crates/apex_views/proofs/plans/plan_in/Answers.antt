-- The events of a history, run anew, give the kernel's machine.
use Rattle.apex_views.proofs.plans.plan_in.Goals as goal

pub returns-clause-machine : goal.returns-clause-machine
returns-clause-machine g c = rw (c.into_table.ensures, c.in_ok-events.ensures) c.holds.ensures.replays

pub returns-clause-within : goal.returns-clause-within
returns-clause-within g c = rw (c.into_table.ensures, c.in_ok-events.ensures) c.holds.ensures.events
