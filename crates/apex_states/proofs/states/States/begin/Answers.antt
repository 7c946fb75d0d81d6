-- The halves have more numbers, and the states are the same.
use Rattle.apex_states.proofs.Halving.{StillHas-refl}
use Rattle.apex_states.proofs.Storing.{seen_held, IsStored-held}
use Rattle.apex_states.proofs.states.States.begin.Goals as goal

pub invariant_of-self : goal.invariant_of-self
invariant_of-self c = IsStored-held c.self.inside.roots c.self.inside.left c.self.inside.right c.begin.new.self c.self.inside.right c.self.invariant c.begin.ensures.held (StillHas-refl c.self.inside.right) c.begin.ensures.half c.self.invariant.right_half

pub returns-in_err-begin : goal.returns-in_err-begin
returns-in_err-begin c = rw (← c.self.view_is) (seen_held c.self.inside.roots c.self.inside.left c.self.inside.right c.begin.new.self c.self.inside.right c.self.invariant c.begin.ensures.held (StillHas-refl c.self.inside.right))

pub invariant_of-self-2 : goal.invariant_of-self-2
invariant_of-self-2 c = IsStored-held c.self.inside.roots c.self.inside.left c.self.inside.right c.begin.new.self c.begin-2.new.self c.self.invariant c.begin.ensures.held c.begin-2.ensures.held c.begin.ensures.half c.begin-2.ensures.half

pub returns : goal.returns
returns c = rw (← c.self.view_is) (seen_held c.self.inside.roots c.self.inside.left c.self.inside.right c.begin.new.self c.begin-2.new.self c.self.invariant c.begin.ensures.held c.begin-2.ensures.held)

pub invariant_of-self-in_err-begin-2 : goal.invariant_of-self-in_err-begin-2
invariant_of-self-in_err-begin-2 c = IsStored-held c.self.inside.roots c.self.inside.left c.self.inside.right c.begin.new.self c.begin-2.new.self c.self.invariant c.begin.ensures.held c.begin-2.ensures.held c.begin.ensures.half c.begin-2.ensures.half

pub returns-in_err-begin-2 : goal.returns-in_err-begin-2
returns-in_err-begin-2 c = rw (← c.self.view_is) (seen_held c.self.inside.roots c.self.inside.left c.self.inside.right c.begin.new.self c.begin-2.new.self c.self.invariant c.begin.ensures.held c.begin-2.ensures.held)
