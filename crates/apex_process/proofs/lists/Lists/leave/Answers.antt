use Rattle.std.proofs.Common.{◌+◌, ◌∙◌, arith}
use Rattle.apex_links.specs.declared.numbers.TheConstants.{READY_LISTS}
use Rattle.apex_links.proofs.Places.{as_many_removed}
use Rattle.std.proofs.lemmas.Grind.{common_steps}
use Rattle.apex_process.proofs.Emptied.{removed_counted}
use Rattle.apex_process.proofs.lists.Lists.leave.Goals as goal

pub invariant_of-self : goal.invariant_of-self
invariant_of-self c =
    let stands = rw (← c.self.view_is) at c.is_ready.ensures.ready in
    let links = c.self.inside.links in
    let counted = removed_counted c.self.inside.queues.counts links c.args.process c.self.invariant.counted (λ n low. stands c.if-is_ready.true (READY_LISTS + n) (omega arith)) in
    record {
      marked = c.leave.ensures.marked;
      counted = rw c.leave.ensures.links counted;
      room = rw c.leave.ensures.links (as_many_removed links c.args.process ∙ c.self.invariant.room);
      noted = rw c.leave.ensures.links c.self.invariant.noted;
      few = rw c.leave.ensures.links c.self.invariant.few;
    }

pub invariant_of-self-else-is_ready : goal.invariant_of-self-else-is_ready
invariant_of-self-else-is_ready c = grind (arith, common_steps)
