-- The halves of a state are numbered, and its root is entered.
use Rattle.std.proofs.Common.{[], ◌∷◌}
use Rattle.apex_states.proofs.Halving.{StillHas-refl}
use Rattle.apex_states.proofs.Storing.{numbered_root, IsKept-seen, IsStored-held, IsStored-kept}
use Rattle.apex_states.proofs.states.States.keep.Goals as goal

pub invariant_of-self : goal.invariant_of-self
invariant_of-self c =
    let right = c.self.inside.right in
    IsStored-held c.self.inside.roots c.self.inside.left right c.number.new.self right c.self.invariant c.number.ensures.held (StillHas-refl right) c.number.ensures.half c.self.invariant.right_half

pub invariant_of-self-in_err-right : goal.invariant_of-self-in_err-right
invariant_of-self-in_err-right c = IsStored-held c.self.inside.roots c.self.inside.left c.self.inside.right c.number.new.self c.number-2.new.self c.self.invariant c.number.ensures.held c.number-2.ensures.held c.number.ensures.half c.number-2.ensures.half

pub invariant_of-self-2 : goal.invariant_of-self-2
invariant_of-self-2 c =
    let long = rw (← c.self.view_is) at c.requires in
    let root = numbered_root c.self.inside.roots c.self.inside.left c.self.inside.right c.number.new.self c.number-2.new.self c.in_ok-left.left c.in_ok-right.right c.word.result c.args.state.now
    c.self.invariant c.number.ensures.held c.number-2.ensures.held long c.in_ok-left.ensures.number c.in_ok-right.ensures.number c.word.ensures.left c.word.ensures.right in
    IsStored-kept c.self.inside.roots c.enter.new.self c.self.inside.left c.self.inside.right c.number.new.self c.number-2.new.self (c.word.result ∷ []) c.args.state.now c.args.origin
    c.self.invariant c.number.ensures.held c.number-2.ensures.held c.number.ensures.half c.number-2.ensures.half root c.enter.result c.enter.ensures

pub returns : goal.returns
returns c =
    let long = rw (← c.self.view_is) at c.requires in
    let root = numbered_root c.self.inside.roots c.self.inside.left c.self.inside.right c.number.new.self c.number-2.new.self c.in_ok-left.left c.in_ok-right.right c.word.result c.args.state.now
    c.self.invariant c.number.ensures.held c.number-2.ensures.held long c.in_ok-left.ensures.number c.in_ok-right.ensures.number c.word.ensures.left c.word.ensures.right in
    rw (← c.self.view_is) (IsKept-seen c.self.inside.roots c.enter.new.self c.self.inside.left c.self.inside.right c.number.new.self c.number-2.new.self (c.word.result ∷ []) c.args.state.now c.args.origin
    c.self.invariant c.number.ensures.held c.number-2.ensures.held c.number.ensures.half c.number-2.ensures.half root c.enter.result c.enter.ensures)
