use Rattle.std.proofs.Common.{refl}
use Rattle.apex_machine.specs.processes.Roster.{record_at}
use Rattle.apex_machine.specs.processes.Stamps.{released_at}
use Rattle.apex_machine.proofs.Replaces.{replaces_readied}
use Rattle.apex_process.proofs.Renewals.{renews_release}
use Rattle.apex_process.proofs.Kept.{renewed_row}
use Rattle.apex_process.proofs.Timers.{retimed_row, retimes_release}
use Rattle.apex_process.proofs.Owning.{own_by, owners_kept}
use Rattle.apex_process.proofs.queue_store.QueueStoreStore.release.Goals as goal

pub invariant_of-self : goal.invariant_of-self
invariant_of-self c =
    let was = c.self.inside.records in
    let known = rw (← c.self.view_is) at c.requires.known in (
      renewed_row was _ _ c.self.inside.lists _ c.args.process c.record-record.result.now known c.self.invariant.0 c.release.ensures
          (renews_release was c.args.process known c.self.invariant.0.stamped) c.record-record.ensures c.put_newest.ensures.links c.put_newest.ensures.priorities c.put_newest.ensures.place,
      retimed_row was _ _ c.self.inside.timers.dues c.self.inside.timers.deadlines _ _ c.args.process c.record-record.result.now c.self.invariant.1 c.release.ensures (retimes_release was c.args.process known)
          c.record-record.ensures _ _ c.set_due.ensures.dues c.set_due.ensures.deadlines c.set_deadline.ensures.dues c.set_deadline.ensures.deadlines,
      owners_kept was _ _ _ c.self.invariant.2 c.release.ensures (own_by (replaces_readied was c.args.process known (released_at was.now (record_at was c.args.process)) refl) refl),
    )
