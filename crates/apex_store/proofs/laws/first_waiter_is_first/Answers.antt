use Rattle.apex_machine.specs.processes.Waiters.{discipline_of}
use Rattle.apex_machine.proofs.Orders.{waits_strict}
use Rattle.apex_store.proofs.TheLeast.{the_least, waits_on}
use Rattle.apex_store.proofs.laws.first_waiter_is_first.Goals as goal

pub returns : goal.returns
returns g c = the_least _ _ (waits_strict (discipline_of (g.S.Store.roster c.args.store.now) c.args.queue)) _ (waits_on (g.S.Store.roster c.args.store.now) (discipline_of (g.S.Store.roster c.args.store.now) c.args.queue) c.requires)
