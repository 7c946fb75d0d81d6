use Rattle.apex_machine.proofs.Replaces.{replaces_record}
use Rattle.apex_process.proofs.Kept.{kept_by}
use Rattle.std.proofs.Common.{refl}
use Rattle.apex_machine.specs.processes.Roster.{record_at}
use Rattle.apex_process.proofs.Renewals.{keeps_deadline}
use Rattle.apex_process.proofs.Timers.{deadline_known, retimes_deadline}
use Rattle.apex_process.proofs.Owning.{own_by, owners_kept}
use Rattle.apex_process.proofs.queue_store.QueueStoreStore.set_deadline.Goals as goal

pub invariant_of-self : goal.invariant_of-self
invariant_of-self c =
    let was = c.self.inside.records in
    let known = rw (← c.self.view_is) at c.requires.known in
    let has = replaces_record was c.args.process known (record (record_at was c.args.process) { deadline = c.args.deadline }) refl 0 in (
      kept_by was _ _ c.self.inside.lists c.self.invariant.0 c.set_deadline.ensures (keeps_deadline was c.args.process known c.self.invariant.0.stamped c.args.deadline),
      deadline_known was _ _ c.self.inside.timers.dues c.self.inside.timers.deadlines _ _ c.args.process c.self.invariant.1 c.set_deadline.ensures has
          (retimes_deadline was c.args.process known c.args.deadline (rw (← c.self.view_is) at c.requires.later)) refl c.set_deadline-2.ensures.dues c.set_deadline-2.ensures.deadlines,
      owners_kept was _ _ _ c.self.invariant.2 c.set_deadline.ensures (own_by has refl),
    )
