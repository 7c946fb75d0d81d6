use Rattle.apex_machine.proofs.Orders.{before_strict}
use Rattle.apex_store.proofs.TheLeast.{the_least, before_on}
use Rattle.apex_store.proofs.Urgency.{most_urgent}
use Rattle.apex_store.proofs.laws.most_urgent_runs.Goals as goal

pub returns : goal.returns
returns g c =
    most_urgent _ _ (the_least _ _ before_strict _ (before_on (g.S.Store.roster c.args.store.now) c.requires))
