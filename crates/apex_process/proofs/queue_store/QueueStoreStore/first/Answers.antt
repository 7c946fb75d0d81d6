use Rattle.std.proofs.Common.{◌∙◌}
use Rattle.apex_process.proofs.Waiting.{first_is, first_known}
use Rattle.apex_process.proofs.queue_store.QueueStoreStore.first.Goals as goal

pub returns-clause-value : goal.returns-clause-value
returns-clause-value c = rw (← c.self.view_is) (c.first.ensures.value ∙ first_is c.self.inside.records c.self.inside.lists c.self.invariant.0 c.args.queue c.first.ensures.numbered)

pub returns-clause-known : goal.returns-clause-known
returns-clause-known c = rw (← c.self.view_is, c.first.ensures.value) (first_known c.self.inside.records c.self.inside.lists c.self.invariant.0 c.args.queue c.first.ensures.numbered)
