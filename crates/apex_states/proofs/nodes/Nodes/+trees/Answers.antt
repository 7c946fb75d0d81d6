use Rattle.std.proofs.Common.{◌≡◌, ℕ, suc, ◌+◌, ◌-◌, ◌*◌, ◌<◌, List, [], ◌∷◌, length, ◌∙◌, arith, slice_index_or}
use Rattle.apex_states.specs.Nodes.{IsTree, Joins}
use Rattle.apex_states.proofs.Trees.{back_tree, Joins-single, tree_halves}
use Rattle.apex_states.proofs.nodes.Nodes.+trees.Goals as goal

pub restore-restore_halves-requires : goal.restore-restore_halves-requires
restore-restore_halves-requires t c =
    let row = c.row-else-depth-eq0.result.now in
    let e : c.args.depth ≡ suc (c.args.depth - 1) = omega (arith, c.if-depth-eq0.false) in
    let one : length row ≡ 1 = c.row-else-depth-eq0.ensures.width ∙ c.requires.exact.one in
    let k = c.requires.tree.0 in
    let joins = tree_halves c.args.self.now c.args.depth (c.args.depth - 1) c.args.number row k e c.row-else-depth-eq0.ensures.row c.requires.tree.2 in
    let tree : (x : List ℕ) × (length x ≡ length c.args.words.now) × Joins (IsTree c.args.self.now (c.args.depth - 1)) (slice_index_or row 0 0 ∷ []) x = (k, c.requires.tree.1, Joins-single (IsTree c.args.self.now (c.args.depth - 1)) row k one joins) in
    let smaller : 2 * (c.args.depth - 1) + 1 < t = omega (arith, c.decreases, c.if-depth-eq0.false) in
    (smaller, (c.requires.exact, tree))

pub restore_halves-restore-requires-2 : goal.restore_halves-restore-requires-2
restore_halves-restore-requires-2 t c =
    let (back, long, there) = back_tree (IsTree c.args.self.now c.args.depth) c.args.word c.of-pair.result.right c.requires.halves.0 c.requires.halves.2 c.of-pair.ensures.right in
    let as_long : length back ≡ length c.split_at_mut-front.result.1.now = omega (arith, long, c.requires.halves.1, c.split_at_mut-front.ensures.back_len) in
    let tree : (x : List ℕ) × (length x ≡ length c.split_at_mut-front.result.1.now) × IsTree c.args.self.now c.args.depth c.of-pair.result.right x = (back, as_long, there) in
    let smaller : 2 * c.args.depth < t = omega (arith, c.decreases) in
    (smaller, (c.requires.exact, tree))
