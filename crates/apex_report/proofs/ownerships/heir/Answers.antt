use Rattle.std.proofs.Common.{◌<◌, ◌∙◌, None, ap, sym, fold, take, length, arith}
use Rattle.std.proofs.lemmas.List.Sums.{fold_more}
use Rattle.apex_report.specs.Ownerships.{heir_after}
use Rattle.apex_report.proofs.ownerships.heir.Goals as goal

pub loop-waking-preserved : goal.loop-waking-preserved
loop-waking-preserved c =
    let woken = c.args.wakings.now in
    let after = heir_after c.args.queue.now c.args.entry.now in
    let at = c.loop-waking.waking-index in
    let within : at < length woken = omega (arith, c.loop-waking-test.true) in
    c.heir_after-heir.ensures ∙ ap (λ before. after before c.waking-item.result) c.loop-waking.invariant
    ∙ ap (after (fold after None (take at woken))) c.waking-item.is
    ∙ sym (fold_more after None woken at c.waking-item.result within)
