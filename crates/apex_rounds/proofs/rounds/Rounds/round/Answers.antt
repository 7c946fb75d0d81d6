use Rattle.std.proofs.Common.{◌≡◌, ◌∙◌, ◌<◌, true, false, sym, ap, arith}
use Rattle.std.proofs.lemmas.Result.{err_from_is_err_and}
use Rattle.apex_machine.specs.table.Table.{Table}
use Rattle.apex_pace.specs.First.{takes_turn}
use Rattle.apex_rounds.specs.Rounds.{paced_in}
use Rattle.apex_rounds.proofs.Parts.{round_begins, round_skips, round_stops, round_turns}
use Rattle.apex_rounds.proofs.rounds.Rounds.round.Goals.{then-takes_turn+in_ok-turn, else-takes_turn}
use Rattle.apex_rounds.proofs.rounds.Rounds.round.Goals as goal

pub loop-number-init : goal.loop-number-init
loop-number-init g c = rw (← c.self.view_is) (round_begins _ c.holds.ensures.values c.holds.ensures.within)

pub loop-number-preserved : goal.loop-number-preserved
loop-number-preserved g c =
    let now = c.loop-number.self in
    let number = c.loop-number.number in
    let here : c.new-core.result ≡ number = c.new-core.ensures in
    let below : number < c.args.self.now.kernel.table.cores =
    rw (← c.self.view_is) (omega (arith, c.loop-number-test.true, c.cores-number-end.ensures.value, ap (λ (t : Table). t.cores) c.table.ensures)) in
    elim c.if-takes_turn.branch [
      | then-takes_turn+in_ok-turn w ↦
          let takes : takes_turn now.pace now.kernel.table (paced_in now) number ≡ true =
          rw here at (sym c.takes_turn.ensures ∙ w.if-takes_turn.true) in
          rw (w.self-is, w.any-is) (round_turns c.args.self.now now number c.loop-number.any below c.loop-number.invariant w.turn.new.self takes
          (rw here at w.in_ok-turn.ensures.makes))
      | else-takes_turn w ↦
          let waits : takes_turn now.pace now.kernel.table (paced_in now) number ≡ false =
          rw here at (sym c.takes_turn.ensures ∙ w.if-takes_turn.false) in
          rw (w.self-is, w.any-is) (round_skips c.args.self.now now number c.loop-number.any below c.loop-number.invariant waits)
    ]

pub returns-in_err-turn-clause-makes : goal.returns-in_err-turn-clause-makes
returns-in_err-turn-clause-makes g c =
    let now = c.loop-number.self in
    let number = c.loop-number.number in
    let here : c.new-core.result ≡ number = c.new-core.ensures in
    let below : number < c.args.self.now.kernel.table.cores =
    rw (← c.self.view_is) (omega (arith, c.loop-number-test.true, c.cores-number-end.ensures.value, ap (λ (t : Table). t.cores) c.table.ensures)) in
    let takes : takes_turn now.pace now.kernel.table (paced_in now) number ≡ true =
    rw here at (sym c.takes_turn.ensures ∙ c.if-takes_turn.true) in
    let p = err_from_is_err_and c.from_residual.result c.from_residual.ensures.1 in
    rw p.1 (round_stops c.args.self.now now number c.loop-number.any below c.loop-number.invariant p.0 c.turn.new.self takes
    (rw here at c.in_err-turn.ensures.makes))
