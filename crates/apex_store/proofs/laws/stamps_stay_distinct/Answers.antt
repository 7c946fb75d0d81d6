use Rattle.apex_store.proofs.Stamps.{stay_distinct}
use Rattle.apex_store.proofs.laws.stamps_stay_distinct.Goals as goal

pub returns : goal.returns
returns g c = stay_distinct _ c.requires
