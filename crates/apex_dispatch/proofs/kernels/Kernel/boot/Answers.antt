use Rattle.std.proofs.Common.{◌∙◌, arith}
use Rattle.apex_dispatch.proofs.Replays.{kept_opening}
use Rattle.apex_dispatch.proofs.kernels.Kernel.boot.Goals as goal

pub invariant_of-result : goal.invariant_of-result
invariant_of-result g c =
    let opening = c.in_ok-situation.ensures in
    let limit = c.lawful.ensures.limit in
    rw (c.in_ok-log.ensures.entries, c.in_ok-log.ensures.limit ∙ c.limit.ensures.value)
    (kept_opening c.args.table _ c.lawful.ensures _ opening.situation (λ left few. opening.goes_on left (omega (arith, few, limit))))
