use Rattle.std.proofs.Common.{Option, None, Some, ap, arith}
use Rattle.std.proofs.lemmas.List.FromFn.{get_or-map-range_with_len}
use Rattle.apex_machine.specs.services.Satisfied.{latest_call}
use Rattle.apex_report.specs.Terms.{Call, Waking}
use Rattle.apex_report.specs.declared.waits.TheConstants.{ID_PLACES}
use Rattle.apex_report.proofs.waits.LatestCalls.waking_by.Goals as goal

pub returns-in-Woken : goal.returns-in-Woken
returns-in-Woken c = λ history is.
    let p = c.in-Woken.process in
    let found : Option Call → Option Waking = λ call. Some (record { process = p; code = c.in-Woken.code; call = call }) in
    rw (c.in-Woken.is, c.latest.ensures.value, is)
    (ap found (get_or-map-range_with_len (λ q. latest_call q history) 0 ID_PLACES p p None c.latest.ensures.range (omega arith)))
