-- The number of a half, in a pair.
use Rattle.std.proofs.Common.{◌≡◌, length, Some, ap, ◌∙◌, slice_index_or}
use Rattle.apex_states.proofs.Trees.{single}
use Rattle.apex_states.proofs.roots.Roots.number.Goals as goal

pub returns-in-Left : goal.returns-in-Left
returns-in-Left c =
    let row = c.row.result.now in
    let one : length row ≡ 1 = c.row.ensures.width ∙ c.self.invariant.0 in
    rw (← c.self.view_is, c.in-Left.is) (slice_index_or row 0 0, c.row.ensures.row ∙ ap Some (single row one), c.of-pair.ensures.left)

pub returns-in-Right : goal.returns-in-Right
returns-in-Right c =
    let row = c.row.result.now in
    let one : length row ≡ 1 = c.row.ensures.width ∙ c.self.invariant.0 in
    rw (← c.self.view_is, c.in-Right.is) (slice_index_or row 0 0, c.row.ensures.row ∙ ap Some (single row one), c.of-pair.ensures.right)
