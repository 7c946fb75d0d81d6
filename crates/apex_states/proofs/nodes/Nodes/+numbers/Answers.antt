use Rattle.std.proofs.Common.{◌≡◌, ◌-◌, suc, length, arith}
use Rattle.apex_states.proofs.Trees.{halves_whole, IsTree-numbered, Joins-halves}
use Rattle.apex_states.proofs.nodes.Nodes.+numbers.Goals as goal

pub number-returns-clause-number : goal.number-returns-clause-number
number-returns-clause-number t c =
    let e : suc (c.args.depth - 1) ≡ c.args.depth = omega (arith, c.if-depth-eq0.false) in
    IsTree-numbered c.number_halves.new.self c.number-2.new.self c.args.depth (c.args.depth - 1) c.in_ok-word.word c.args.words.now c.number-2.result e c.number-2.ensures.rows c.number-2.ensures.number c.in_ok-word.ensures.halves

pub number_halves-returns-clause-halves : goal.number_halves-returns-clause-halves
number_halves-returns-clause-halves t c =
    let front = c.split_at.result.0.now in
    let back = c.split_at.result.1.now in
    let halves : length front ≡ length back = omega (arith, c.split_at.ensures.front_len, c.split_at.ensures.back_len, c.requires.words) in
    Joins-halves c.number.new.self c.number-2.new.self c.args.depth c.in_ok-left.left c.in_ok-right.right c.word.result c.args.words.now front back
    c.in_ok-right.ensures.held c.in_ok-left.ensures.number c.in_ok-right.ensures.number c.word.ensures.left c.word.ensures.right halves
    (halves_whole c.args.words.now front back _ c.split_at.ensures.front c.split_at.ensures.back)
