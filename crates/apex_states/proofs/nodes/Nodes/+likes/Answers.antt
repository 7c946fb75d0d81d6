use Rattle.std.proofs.Common.{◌≡◌, suc, ◌+◌, ◌-◌, ◌*◌, ◌<◌, length, ap, ◌∙◌, arith}
use Rattle.apex_states.specs.Nodes.{IsTree, spread}
use Rattle.apex_states.proofs.Trees.{halves_whole, known_halves, spread-less, tree_halves, IsTree-held, IsTree-numbered, Joins-halves, Joins-single}
use Rattle.apex_states.proofs.nodes.Nodes.+likes.Goals as goal

pub number_like-number_halves_like-requires : goal.number_like-number_halves_like-requires
number_like-number_halves_like-requires t c =
    let row = c.row.result.now in
    let e : c.args.depth ≡ suc (c.args.depth - 1) = omega (arith, c.if-depth-eq0.false) in
    let one : length row ≡ 1 = c.row.ensures.width ∙ c.requires.exact.one in
    let joins = tree_halves c.args.self.now c.args.depth (c.args.depth - 1) c.args.number row c.args.known.now e c.row.ensures.row c.requires.known in
    let known = Joins-single (IsTree c.args.self.now (c.args.depth - 1)) row c.args.known.now one joins in
    let words = c.requires.words ∙ spread-less c.args.self.now.parts.width c.args.depth (c.args.depth - 1) e in
    let smaller : 2 * (c.args.depth - 1) + 1 < t = omega (arith, c.decreases, c.if-depth-eq0.false) in
    (smaller, (c.requires.exact, (words, (c.requires.long, known))))

pub number_like-returns-clause-number : goal.number_like-returns-clause-number
number_like-returns-clause-number t c =
    let e : suc (c.args.depth - 1) ≡ c.args.depth = omega (arith, c.if-depth-eq0.false) in
    IsTree-numbered c.number_halves_like.new.self c.number-2.new.self c.args.depth (c.args.depth - 1) c.in_ok-word.word c.args.words.now c.number-2.result e c.number-2.ensures.rows c.number-2.ensures.number c.in_ok-word.ensures.halves

pub number_halves_like-number_like-requires-2 : goal.number_halves_like-number_like-requires-2
number_halves_like-number_like-requires-2 t c =
    let back = c.split_at.result.1.now in
    let known_front = c.split_at-2.result.0.now in
    let known_back = c.split_at-2.result.1.now in
    let halves : length known_front ≡ length known_back = omega (arith, c.split_at-2.ensures.front_len, c.split_at-2.ensures.back_len, c.requires.long, c.requires.words) in
    let whole = halves_whole c.args.known.now known_front known_back _ c.split_at-2.ensures.front c.split_at-2.ensures.back in
    let trees = known_halves (IsTree c.args.self.now c.args.depth) c.args.pair c.of-pair.result.left c.of-pair.result.right c.args.known.now known_front known_back c.requires.known halves whole c.of-pair.ensures.left c.of-pair.ensures.right in
    let known = IsTree-held c.args.self.now c.number_like.new.self c.args.depth c.of-pair.result.right known_back c.number_like.ensures.held trees.1 in
    let same : spread c.number_like.new.self.parts.width c.args.depth ≡ spread c.args.self.now.parts.width c.args.depth = ap (λ w. spread w c.args.depth) c.number_like.ensures.held.width in
    let words : length back ≡ spread c.number_like.new.self.parts.width c.args.depth = omega (arith, same, c.split_at.ensures.front_len, c.split_at.ensures.back_len, c.requires.words) in
    let long : length known_back ≡ length back = omega (arith, c.split_at-2.ensures.front_len, c.split_at-2.ensures.back_len, c.split_at.ensures.front_len, c.split_at.ensures.back_len, c.requires.long, c.requires.words) in
    let smaller : 2 * c.args.depth < t = omega (arith, c.decreases) in
    (smaller, (c.number_like.ensures.exact, (words, (long, known))))

pub number_halves_like-returns-clause-halves : goal.number_halves_like-returns-clause-halves
number_halves_like-returns-clause-halves t c =
    let front = c.split_at.result.0.now in
    let back = c.split_at.result.1.now in
    let halves : length front ≡ length back = omega (arith, c.split_at.ensures.front_len, c.split_at.ensures.back_len, c.requires.words) in
    Joins-halves c.number_like.new.self c.number_like-2.new.self c.args.depth c.in_ok-left.left c.in_ok-right.right c.word.result c.args.words.now front back
    c.in_ok-right.ensures.held c.in_ok-left.ensures.number c.in_ok-right.ensures.number c.word.ensures.left c.word.ensures.right halves
    (halves_whole c.args.words.now front back _ c.split_at.ensures.front c.split_at.ensures.back)
