-- The words of both halves of a state.
use Rattle.std.proofs.Common.{arith}
use Rattle.std.proofs.lemmas.Grind.{common_steps}
use Rattle.apex_states.proofs.Halving.{StillHas-refl}
use Rattle.apex_states.proofs.Storing.{state_here}
use Rattle.apex_states.proofs.states.States.read.Goals as goal

pub returns : goal.returns
returns c =
    let left = c.self.inside.left in
    let right = c.self.inside.right in
    let (pair, there, high) = c.number-front_number.ensures in
    let (pair', there', low) = c.number-back_number.ensures in
    rw (← c.self.view_is) (state_here c.self.inside.roots left right left right c.args.place pair pair' c.number-front_number.result c.number-back_number.result c.read.new.words c.read-2.new.words
    c.self.invariant (StillHas-refl left) (StillHas-refl right) there there' high low c.in_ok-read.ensures c.in_ok-read-2.ensures)

pub number-front_number-requires : goal.number-front_number-requires
number-front_number-requires c = grind (arith, common_steps)

pub number-back_number-requires : goal.number-back_number-requires
number-back_number-requires c = grind (arith, common_steps)
