use Rattle.apex_dispatch.specs.Situations.{situation_in}
use Rattle.apex_reasons.proofs.Reasoned.{reason_is}
use Rattle.apex_reasons.proofs.reasons.reason_for.Goals as goal

pub returns-in-Turn-clause-deed : goal.returns-in-Turn-clause-deed
returns-in-Turn-clause-deed g c =
    reason_is c.args.table.now (situation_in c.args.situation.now) c.args.event c.requires.event c.turn_reason.result
    (rw c.in-Turn.is c.turn_reason.ensures)
