use Rattle.std.specs.Vec.{vec_capacity}
use Rattle.apex_states.proofs.Filling.{IsFilling}
use Rattle.apex_states.proofs.index.Index.fill.Given as goal

abbrev pub invariant-loop-place : goal.invariant-loop-place
invariant-loop-place l =
    IsFilling l.rows.rows l.size (vec_capacity l.fn.self.slots) l.place l.self.slots.items (vec_capacity l.self.slots)
