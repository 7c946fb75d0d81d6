use Rattle.std.proofs.Common.{◌≡◌, ◌-◌, ◌∙◌, arith}
use Rattle.apex_ready.proofs.Marks.{highest_list, word_unmarked}
use Rattle.apex_ready.proofs.orders.ReadyOrders.highest.Goals as goal

pub loop-round-init : goal.loop-round-init
loop-round-init c = λ p known here. absurd (omega (arith, known, here))

pub returns-then-marks-ne0-clause-value : goal.returns-then-marks-ne0-clause-value
returns-then-marks-ne0-clause-value c =
    let core : c.from-number.result ≡ c.args.core = c.from-number.ensures ∙ c.number.ensures.value in
    let top = rw (core, c.from.ensures) at c.highest_bit.ensures in
    rw (← c.self.view_is) (highest_list c.self.inside.words c.args.core c.loop-round.round _ c.loop-round-test.true top c.loop-round.invariant)

pub loop-round-preserved : goal.loop-round-preserved
loop-round-preserved c =
    let core : c.from-number.result ≡ c.args.core = c.from-number.ensures ∙ c.number.ensures.value in
    let none = rw (core, c.from.ensures) at c.if-marks-ne0.false in
    word_unmarked c.self.inside.words c.args.core c.loop-round.round c.loop-round-test.true none c.loop-round.invariant

pub returns-clause-value : goal.returns-clause-value
returns-clause-value c = λ p known. rw (← c.self.view_is) (c.loop-round.invariant p known (omega (arith, c.loop-round-test.false)))
