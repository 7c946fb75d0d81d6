use Rattle.std.proofs.Common.{◌≡◌, ℕ, ◌<◌, map, Some}
use Rattle.std.specs.List.{slice_get}
use Rattle.apex_states.specs.Index.{cell_after, place_in}
use Rattle.apex_states.proofs.index.Index.free.Given as goal

abbrev pub invariant-loop-steps : goal.invariant-loop-steps
invariant-loop-steps l =
    (i : ℕ) → i < l.steps → (p : ℕ) × (slice_get (map place_in l.self.slots.items) (cell_after (map place_in l.self.slots.items) l.row i) ≡ Some (Some p))
