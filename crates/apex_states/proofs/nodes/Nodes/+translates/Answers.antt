use Rattle.std.proofs.Common.{◌≡◌, ◌-◌, suc, length, ◌∙◌, arith}
use Rattle.apex_states.specs.Nodes.{IsTree}
use Rattle.apex_states.proofs.Trees.{IsTree-translated, Joins-translated}
use Rattle.apex_states.proofs.nodes.Nodes.+translates.Goals as goal

pub translate-returns-clause-number : goal.translate-returns-clause-number
translate-returns-clause-number t c =
    let row = c.row.result.now in
    let e : c.args.depth ≡ suc (c.args.depth - 1) = omega (arith, c.if-depth-eq0.false) in
    let one : length row ≡ 1 = c.row.ensures.width ∙ c.requires.known.one in
    IsTree-translated c.args.known.now c.translate_halves.new.self c.number.new.self c.args.depth (c.args.depth - 1) c.args.number c.in_ok-word.word row c.number.result
    e c.row.ensures.row one c.in_ok-word.ensures.halves c.number.ensures.rows c.number.ensures.number

pub translate_halves-returns-clause-halves : goal.translate_halves-returns-clause-halves
translate_halves-returns-clause-halves t c = λ k joins.
    Joins-translated (IsTree c.args.known.now c.args.depth) c.translate.new.self c.translate-2.new.self c.args.depth c.args.pair c.of-pair.result.left c.of-pair.result.right c.in_ok-left.left c.in_ok-right.right c.word.result k
    c.in_ok-right.ensures.held c.of-pair.ensures.left c.of-pair.ensures.right c.in_ok-left.ensures.number c.in_ok-right.ensures.number c.word.ensures.left c.word.ensures.right joins
