use Rattle.std.proofs.Common.{refl, sym, ◌∙◌}
use Rattle.apex_machine.specs.processes.Roster.{record_at}
use Rattle.apex_machine.specs.declared.records.Suspender.TheVariants.{Other}
use Rattle.std.proofs.Common.{Some}
use Rattle.apex_machine.proofs.Replaces.{replaces_record}
use Rattle.apex_process.proofs.Renewals.{keeps_suspend, none_suspend, renews_suspend}
use Rattle.apex_process.proofs.Kept.{kept_by, left_by}
use Rattle.apex_process.proofs.Timers.{timers_by, timers_kept}
use Rattle.apex_process.proofs.Owning.{own_by, owners_kept}
use Rattle.apex_process.proofs.queue_store.QueueStoreStore.suspend.Goals as goal

pub invariant_of-self : goal.invariant_of-self
invariant_of-self c =
    let was = c.self.inside.records in
    let known = rw (← c.self.view_is) at c.requires.known in
    let ready = rw c.record-record.ensures at (sym c.is_ready-is_ready.ensures ∙ c.if-is_ready.true) in (
      left_by was _ _ c.self.inside.lists _ c.args.process c.self.invariant.0 c.suspend.ensures (renews_suspend was c.args.process known c.self.invariant.0.stamped ready)
          (none_suspend was c.args.process known c.self.invariant.0.stamped ready) c.leave.ensures.links c.leave.ensures.priorities,
      timers_kept was _ _ c.self.inside.timers.dues c.self.inside.timers.deadlines c.self.invariant.1 c.suspend.ensures (timers_by (replaces_record was c.args.process known (record (record_at was c.args.process) { suspended = Some Other }) refl 0) refl refl),
      owners_kept was _ _ _ c.self.invariant.2 c.suspend.ensures (own_by (replaces_record was c.args.process known (record (record_at was c.args.process) { suspended = Some Other }) refl 0) refl),
    )

pub invariant_of-self-else-is_ready : goal.invariant_of-self-else-is_ready
invariant_of-self-else-is_ready c =
    let was = c.self.inside.records in
    let known = rw (← c.self.view_is) at c.requires.known in
    let out = rw c.record-record.ensures at (sym c.is_ready-is_ready.ensures ∙ c.if-is_ready.false) in (
      kept_by was _ _ c.self.inside.lists c.self.invariant.0 c.suspend.ensures (keeps_suspend was c.args.process known c.self.invariant.0.stamped out),
      timers_kept was _ _ c.self.inside.timers.dues c.self.inside.timers.deadlines c.self.invariant.1 c.suspend.ensures (timers_by (replaces_record was c.args.process known (record (record_at was c.args.process) { suspended = Some Other }) refl 0) refl refl),
      owners_kept was _ _ _ c.self.invariant.2 c.suspend.ensures (own_by (replaces_record was c.args.process known (record (record_at was c.args.process) { suspended = Some Other }) refl 0) refl),
    )
