use Rattle.apex_machine.proofs.Replaces.{replaces_record}
use Rattle.apex_process.proofs.Kept.{kept_by}
use Rattle.std.proofs.Common.{Some, refl}
use Rattle.apex_machine.specs.processes.Roster.{record_at}
use Rattle.apex_process.proofs.Timers.{timers_by, timers_kept}
use Rattle.apex_process.proofs.Owning.{own_by, owners_kept}
use Rattle.apex_process.proofs.Renewals.{keeps_message}
use Rattle.apex_process.proofs.queue_store.QueueStoreStore.receive.Goals as goal

pub invariant_of-self : goal.invariant_of-self
invariant_of-self c =
    let was = c.self.inside.records in
    let known = rw (← c.self.view_is) at c.requires.known in (
      kept_by was _ _ c.self.inside.lists c.self.invariant.0 c.receive.ensures (keeps_message was c.args.process known c.self.invariant.0.stamped c.args.message),
      timers_kept was _ _ c.self.inside.timers.dues c.self.inside.timers.deadlines c.self.invariant.1 c.receive.ensures (timers_by (replaces_record was c.args.process known (record (record_at was c.args.process) { inbox = Some c.args.message }) refl 0) refl refl),
      owners_kept was _ _ _ c.self.invariant.2 c.receive.ensures (own_by (replaces_record was c.args.process known (record (record_at was c.args.process) { inbox = Some c.args.message }) refl 0) refl),
    )
