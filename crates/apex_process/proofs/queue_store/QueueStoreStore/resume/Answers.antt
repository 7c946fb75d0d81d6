use Rattle.std.proofs.Common.{◌∙◌}
use Rattle.apex_process.proofs.Renewals.{none_read, renews_resume, keeps_resume}
use Rattle.apex_process.proofs.Kept.{kept_by, renewed_row}
use Rattle.apex_process.proofs.Timers.{deadline_resume, due_row, retimes_resume, timers_kept, timers_resume}
use Rattle.apex_process.proofs.Owning.{own_resume, owners_kept}
use Rattle.apex_process.proofs.queue_store.QueueStoreStore.resume.Goals as goal

pub invariant_of-self : goal.invariant_of-self
invariant_of-self c =
    let was = c.self.inside.records in
    let known = rw (← c.self.view_is) at c.requires.known in (
      renewed_row was _ _ c.self.inside.lists _ c.args.process c.record-record.result.now known c.self.invariant.0 c.resume.ensures
          (renews_resume was c.args.process known c.self.invariant.0.stamped (rw (c.record-record.ensures, c.resume.ensures) at (none_read _ _ c.is_none.ensures ∙ c.if-is_none.true))) c.record-record.ensures c.put_newest.ensures.links c.put_newest.ensures.priorities c.put_newest.ensures.place,
      due_row was _ _ c.self.inside.timers.dues c.self.inside.timers.deadlines _ _ c.args.process c.record-record.result.now c.self.invariant.1 c.resume.ensures (retimes_resume was c.args.process known) c.record-record.ensures
          (deadline_resume was c.args.process known) c.set_due.ensures.dues c.set_due.ensures.deadlines,
      owners_kept was _ _ _ c.self.invariant.2 c.resume.ensures (own_resume was c.args.process known),
    )

pub invariant_of-self-else-is_none : goal.invariant_of-self-else-is_none
invariant_of-self-else-is_none c =
    let was = c.self.inside.records in
    let known = rw (← c.self.view_is) at c.requires.known in
    let waits = rw (c.record-record.ensures, c.resume.ensures) at (none_read _ _ c.is_none.ensures ∙ c.if-is_none.false) in (
      kept_by was _ _ c.self.inside.lists c.self.invariant.0 c.resume.ensures (keeps_resume was c.args.process known c.self.invariant.0.stamped waits),
      timers_kept was _ _ c.self.inside.timers.dues c.self.inside.timers.deadlines c.self.invariant.1 c.resume.ensures (timers_resume was c.args.process known waits),
      owners_kept was _ _ _ c.self.invariant.2 c.resume.ensures (own_resume was c.args.process known),
    )
