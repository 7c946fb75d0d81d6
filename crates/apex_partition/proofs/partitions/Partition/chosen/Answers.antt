use Rattle.apex_partition.proofs.partitions.Partition.chosen.Goals as goal

pub returns-clause-urgent : goal.returns-clause-urgent
returns-clause-urgent c = c.store.ensures.headline.running c.args.core
