use Rattle.apex_process.proofs.Owning.{owner_is, owner_known}
use Rattle.apex_process.proofs.queue_store.QueueStoreStore.owner.Goals as goal

pub returns-clause-value : goal.returns-clause-value
returns-clause-value c = rw (← c.self.view_is) (owner_is c.self.inside.records c.self.inside.owners c.self.invariant.2 c.self.invariant.0.few c.args.mutex c.first.ensures.known c.first.result c.first.ensures.value)

pub returns-clause-known : goal.returns-clause-known
returns-clause-known c = rw (← c.self.view_is) (owner_known c.self.inside.records c.self.inside.owners c.self.invariant.2 c.self.invariant.0.few c.args.mutex c.first.ensures.known c.first.result c.first.ensures.value)
