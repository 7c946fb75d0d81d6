use Rattle.std.proofs.Common.{ℕ, ◌<◌, map}
use Rattle.apex_states.specs.Index.{cell_after, place_in, IsOther}
use Rattle.apex_states.proofs.index.Index.find.Given as goal

abbrev pub invariant-loop-steps : goal.invariant-loop-steps
invariant-loop-steps l =
    (i : ℕ) → i < l.steps → IsOther (map place_in l.self.slots.items) l.rows.rows l.row (cell_after (map place_in l.self.slots.items) l.row i)
