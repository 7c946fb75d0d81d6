use Rattle.apex_machine.proofs.DistinctStamps.{stamped_opening}
use Rattle.apex_store.proofs.laws.opens_with_distinct_stamps.Goals as goal

pub returns : goal.returns
returns c = stamped_opening c.args.table.now
