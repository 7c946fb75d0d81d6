use Rattle.std.proofs.Common.{refl}
use Rattle.apex_machine.specs.processes.Roster.{record_at}
use Rattle.apex_machine.specs.processes.Stamps.{self_suspended}
use Rattle.apex_machine.proofs.Replaces.{replaces_newest}
use Rattle.apex_process.proofs.Renewals.{none_suspend_self, renews_suspend_self}
use Rattle.apex_process.proofs.Kept.{left_by}
use Rattle.apex_process.proofs.Timers.{due_known, retimes_suspend_self}
use Rattle.apex_process.proofs.Owning.{own_by, owners_kept}
use Rattle.apex_process.proofs.queue_store.QueueStoreStore.suspend_self.Goals as goal

pub invariant_of-self : goal.invariant_of-self
invariant_of-self c =
    let was = c.self.inside.records in
    let known = rw (← c.self.view_is) at c.requires.known in
    let has = replaces_newest was c.args.process known (self_suspended (record_at was c.args.process) c.args.due) in (
      left_by was _ _ c.self.inside.lists _ c.args.process c.self.invariant.0 c.suspend_self.ensures (renews_suspend_self was c.args.process known c.self.invariant.0.stamped c.args.due)
          (none_suspend_self was c.args.process known c.self.invariant.0.stamped c.args.due) c.leave.ensures.links c.leave.ensures.priorities,
      due_known was _ _ c.self.inside.timers.dues c.self.inside.timers.deadlines _ _ c.args.process c.self.invariant.1 c.suspend_self.ensures has
          (retimes_suspend_self was c.args.process known c.args.due (rw (← c.self.view_is) at c.requires.due)) refl c.set_due.ensures.dues c.set_due.ensures.deadlines,
      owners_kept was _ _ _ c.self.invariant.2 c.suspend_self.ensures (own_by has refl),
    )
