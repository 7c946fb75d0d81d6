use Rattle.apex_store.proofs.States.{running_chosen}
use Rattle.apex_store.proofs.laws.running_is_chosen.Goals as goal

pub returns : goal.returns
returns g c = running_chosen _ _
