use Rattle.apex_process.proofs.Renewals.{renews_start}
use Rattle.apex_process.proofs.Kept.{renewed_row}
use Rattle.apex_process.proofs.Timers.{retimes_start, retimed_row}
use Rattle.apex_process.proofs.Owning.{own_start, owners_kept}
use Rattle.apex_process.proofs.queue_store.QueueStoreStore.start.Goals as goal

pub invariant_of-self : goal.invariant_of-self
invariant_of-self c =
    let was = c.self.inside.records in
    let known = rw (← c.self.view_is) at c.requires.known in (
      renewed_row was _ _ c.self.inside.lists _ c.args.process c.record-record.result.now known c.self.invariant.0 c.start.ensures
          (renews_start was c.args.process c.args.delay known c.self.invariant.0.stamped) c.record-record.ensures c.put_newest.ensures.links c.put_newest.ensures.priorities c.put_newest.ensures.place,
      retimed_row was _ _ c.self.inside.timers.dues c.self.inside.timers.deadlines _ _ c.args.process c.record-record.result.now c.self.invariant.1 c.start.ensures (retimes_start was c.args.process c.args.delay known)
          c.record-record.ensures _ _ c.set_due.ensures.dues c.set_due.ensures.deadlines c.set_deadline.ensures.dues c.set_deadline.ensures.deadlines,
      owners_kept was _ _ _ c.self.invariant.2 c.start.ensures (own_start was c.args.process c.args.delay known),
    )
