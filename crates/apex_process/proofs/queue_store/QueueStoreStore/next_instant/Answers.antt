use Rattle.std.proofs.Common.{◌∙◌}
use Rattle.apex_process.proofs.Firsts.{next_is}
use Rattle.apex_process.proofs.queue_store.QueueStoreStore.next_instant.Goals as goal

pub returns : goal.returns
returns c = rw (← c.self.view_is) (c.next_instant.ensures ∙ next_is c.self.inside.records c.self.inside.timers.dues c.self.inside.timers.deadlines c.self.invariant.1 c.holds.ensures.dues c.holds.ensures.deadlines)
