use Rattle.apex_states.proofs.Storing.{stored_apart}
use Rattle.apex_states.proofs.states.States.len.Goals as goal

pub returns-clause-apart : goal.returns-clause-apart
returns-clause-apart c = rw (← c.self.view_is) (stored_apart c.self.inside.roots c.self.inside.left c.self.inside.right c.self.invariant c.len.ensures.apart)
