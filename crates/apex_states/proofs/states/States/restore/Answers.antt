-- The words of both halves of a state.
use Rattle.std.proofs.Common.{subst, arith}
use Rattle.apex_states.specs.Halves.{IsNumber}
use Rattle.std.proofs.lemmas.Grind.{common_steps}
use Rattle.apex_states.proofs.Storing.{seen_held, state_here, IsStored-held}
use Rattle.apex_states.proofs.states.States.restore.Goals as goal

pub invariant_of-self : goal.invariant_of-self
invariant_of-self c = IsStored-held c.self.inside.roots c.self.inside.left c.self.inside.right c.restore.new.self c.restore-2.new.self c.self.invariant c.restore.ensures.held c.restore-2.ensures.held c.restore.ensures.half c.restore-2.ensures.half

pub returns-clause-state : goal.returns-clause-state
returns-clause-state c =
    let (pair, there, high) = c.number.ensures in
    let (pair', there', low) = c.number-2.ensures in
    let front = subst (λ n. IsNumber c.restore.new.self n c.words.result.now) c.restore.ensures.number c.words.ensures in
    let back = subst (λ n. IsNumber c.restore-2.new.self n c.words-2.result.now) c.restore-2.ensures.number c.words-2.ensures in
    rw (← c.self.view_is, c.copy_from_slice.ensures.after, c.copy_from_slice-2.ensures.after) (state_here c.self.inside.roots c.self.inside.left c.self.inside.right c.restore.new.self c.restore-2.new.self c.args.place pair pair' c.number.result c.number-2.result c.words.result.now c.words-2.result.now
    c.self.invariant c.restore.ensures.held c.restore-2.ensures.held there there' high low front back)

pub returns-clause-same : goal.returns-clause-same
returns-clause-same c = rw (← c.self.view_is) (seen_held c.self.inside.roots c.self.inside.left c.self.inside.right c.restore.new.self c.restore-2.new.self c.self.invariant c.restore.ensures.held c.restore-2.ensures.held)

pub number-requires : goal.number-requires
number-requires c = grind (arith, common_steps)

pub number-requires-2 : goal.number-requires-2
number-requires-2 c = grind (arith, common_steps)
