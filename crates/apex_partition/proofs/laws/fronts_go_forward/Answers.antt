use Rattle.apex_partition.proofs.Forward.{fronts_forward}
use Rattle.apex_partition.proofs.laws.fronts_go_forward.Goals as goal

pub returns : goal.returns
returns c =
    let table = c.args.table.now in
    let lawful = c.lawful.ensures in
    fronts_forward table (c.histories_replay.ensures table lawful) (c.time_goes_forward.ensures table lawful)
