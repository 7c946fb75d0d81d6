-- The states are the same with more room.
use Rattle.apex_states.proofs.states.States.make_room.Goals as goal

pub invariant_of-self : goal.invariant_of-self
invariant_of-self c =
    let stored = c.self.invariant in
    rw (c.make_room.ensures.same) (record {
      left_half = stored.left_half;
      right_half = stored.right_half;
      left_side = stored.left_side;
      right_side = stored.right_side;
      middle = stored.middle;
      valid = stored.valid;
    })
