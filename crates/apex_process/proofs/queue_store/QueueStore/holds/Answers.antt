use Rattle.apex_process.proofs.States.{lists_of_state}
use Rattle.apex_process.proofs.queue_store.QueueStore.holds.Goals as goal

pub returns : goal.returns
returns c = rw (← c.self.view_is) (lists_of_state _ c.self.invariant.0 c.self.invariant.1 c.self.invariant.2 c.holds.ensures.kept c.holds-2.ensures.dues c.holds-2.ensures.deadlines)
