use Rattle.apex_schedules.proofs.Printed.{leads}
use Rattle.apex_schedules.proofs.printing.length_of_first.Goals as goal

pub returns-in-Turn-clause-some : goal.returns-in-Turn-clause-some
returns-in-Turn-clause-some c = rw c.leading_turns.ensures.count (leads c.in-Turn.core c.args.events.now (rw (← c.in-Turn.is) c.requires))
