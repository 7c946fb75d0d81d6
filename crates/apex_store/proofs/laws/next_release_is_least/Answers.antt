use Rattle.apex_store.proofs.NextRelease.{next_is_least}
use Rattle.apex_store.proofs.laws.next_release_is_least.Goals as goal

pub returns : goal.returns
returns g c = next_is_least (g.S.Store.roster c.args.store.now) c.args.process
