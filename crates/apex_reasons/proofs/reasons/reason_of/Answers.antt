use Rattle.apex_dispatch.specs.Situations.{situation_in}
use Rattle.apex_reasons.proofs.Reasoned.{are_of_table}
use Rattle.apex_reasons.proofs.reasons.reason_of.Goals as goal

pub reason_for-requires-clause-all : goal.reason_for-requires-clause-all
reason_for-requires-clause-all g c =
    let kernel = c.args.kernel.now in
    rw c.table.ensures
    (are_of_table kernel.table kernel.machine (situation_in c.situation.result.now) c.situation.ensures
    c.holds.ensures.records c.holds.ensures.time)
