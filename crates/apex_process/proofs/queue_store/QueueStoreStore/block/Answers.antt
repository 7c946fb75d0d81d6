use Rattle.std.proofs.Common.{refl}
use Rattle.apex_machine.specs.processes.Roster.{record_at}
use Rattle.apex_machine.specs.processes.Stamps as stamps
use Rattle.apex_machine.proofs.Replaces.{replaces_newest}
use Rattle.apex_process.proofs.Renewals.{renews_block}
use Rattle.apex_process.proofs.Kept.{renewed_row}
use Rattle.apex_process.proofs.Timers.{deadline_kept, due_row, retimes_block}
use Rattle.apex_process.proofs.Owning.{own_by, owners_kept}
use Rattle.apex_process.proofs.queue_store.QueueStoreStore.block.Goals as goal

pub invariant_of-self : goal.invariant_of-self
invariant_of-self c =
    let was = c.self.inside.records in
    let known = rw (← c.self.view_is) at c.requires.known in (
      renewed_row was _ _ c.self.inside.lists _ c.args.process c.record-record.result.now known c.self.invariant.0 c.block.ensures
          (renews_block was c.args.process known c.self.invariant.0.stamped c.args.wait c.args.due) c.record-record.ensures c.put_newest.ensures.links c.put_newest.ensures.priorities c.put_newest.ensures.place,
      due_row was _ _ c.self.inside.timers.dues c.self.inside.timers.deadlines _ _ c.args.process c.record-record.result.now c.self.invariant.1 c.block.ensures (retimes_block was c.args.process known c.args.wait c.args.due (rw (← c.self.view_is) at c.requires.due)) c.record-record.ensures
          (deadline_kept (replaces_newest was c.args.process known (stamps.waiting (record_at was c.args.process) c.args.wait c.args.due)) refl) c.set_due.ensures.dues c.set_due.ensures.deadlines,
      owners_kept was _ _ _ c.self.invariant.2 c.block.ensures (own_by (replaces_newest was c.args.process known (stamps.waiting (record_at was c.args.process) c.args.wait c.args.due)) refl),
    )
