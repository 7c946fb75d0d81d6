use Rattle.std.proofs.Common.{refl}
use Rattle.apex_machine.specs.processes.Roster.{record_at}
use Rattle.apex_machine.proofs.Replaces.{replaces_newest}
use Rattle.apex_process.proofs.Renewals.{renews_place_newest}
use Rattle.apex_process.proofs.Kept.{renewed_row}
use Rattle.apex_process.proofs.Timers.{timers_by, timers_kept}
use Rattle.apex_process.proofs.Owning.{own_by, owners_kept}
use Rattle.apex_process.proofs.queue_store.QueueStoreStore.place_newest.Goals as goal

pub invariant_of-self : goal.invariant_of-self
invariant_of-self c =
    let was = c.self.inside.records in
    let known = rw (← c.self.view_is) at c.requires.known in (
      renewed_row was _ _ c.self.inside.lists _ c.args.process c.record-record.result.now known c.self.invariant.0 c.place_newest.ensures
          (renews_place_newest was c.args.process known c.self.invariant.0.stamped) c.record-record.ensures c.put_newest.ensures.links c.put_newest.ensures.priorities c.put_newest.ensures.place,
      timers_kept was _ _ c.self.inside.timers.dues c.self.inside.timers.deadlines c.self.invariant.1 c.place_newest.ensures (timers_by (replaces_newest was c.args.process known (record_at was c.args.process)) refl refl),
      owners_kept was _ _ _ c.self.invariant.2 c.place_newest.ensures (own_by (replaces_newest was c.args.process known (record_at was c.args.process)) refl),
    )
