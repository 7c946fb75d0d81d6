-- The numbers of the halves on either side.
use Rattle.std.proofs.Common.{◌∙◌, sym, subst, length}
use Rattle.apex_states.specs.States.{IsSided}
use Rattle.apex_states.proofs.Numbering.{numbered_left, numbered_right}
use Rattle.apex_states.proofs.states.States.numbered.Goals as goal
use Rattle.apex_states.proofs.states.States.numbered.Goals.{in-Left, in-Right}

pub returns-clause-numbers : goal.returns-clause-numbers
returns-clause-numbers c =
    let roots = c.self.inside.roots in
    let left = c.self.inside.left in
    let right = c.self.inside.right in
    let numbers = c.in_ok-numbers.numbers.items in
    elim c.match-side.branch [
      | in-Left w ↦
          let sided = subst (λ s. IsSided roots s numbers (length roots.states)) w.in-Left.is c.in_ok-numbers.ensures in
          rw (w.half-is, ← c.self.view_is) (c.self.invariant.left_side ∙ sym w.in-Left.is, numbered_left roots left right numbers c.self.invariant sided)
      | in-Right w ↦
          let sided = subst (λ s. IsSided roots s numbers (length roots.states)) w.in-Right.is c.in_ok-numbers.ensures in
          rw (w.half-is, ← c.self.view_is) (c.self.invariant.right_side ∙ sym w.in-Right.is, numbered_right roots left right numbers c.self.invariant sided)
    ]
