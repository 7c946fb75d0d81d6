use Rattle.std.proofs.Common.{[], ◌∷◌, refl, arith}
use Rattle.apex_machine.specs.processes.Roster.{record_at}
use Rattle.apex_machine.specs.processes.Stamps as stamps
use Rattle.apex_machine.proofs.Replaces.{replaces_readied}
use Rattle.apex_process.proofs.Renewals.{renews_inherit}
use Rattle.apex_process.proofs.Kept.{renewed_row}
use Rattle.apex_process.proofs.Timers.{deadline_kept, due_row, retimes_inherit}
use Rattle.apex_process.proofs.Owning.{disowns_by, owners_inherited}
use Rattle.apex_process.proofs.queue_store.QueueStoreStore.inherit.Goals as goal

pub invariant_of-self : goal.invariant_of-self
invariant_of-self c =
    let was = c.self.inside.records in
    let known = rw (← c.self.view_is) at c.requires.known in (
      renewed_row was _ _ c.self.inside.lists _ c.args.process c.record-record.result.now known c.self.invariant.0 c.inherit.ensures
          (renews_inherit was c.args.process known c.self.invariant.0.stamped c.args.holding) c.record-record.ensures c.put_newest.ensures.links c.put_newest.ensures.priorities c.put_newest.ensures.place,
      due_row was _ _ c.self.inside.timers.dues c.self.inside.timers.deadlines _ _ c.args.process c.record-record.result.now c.self.invariant.1 c.inherit.ensures (retimes_inherit was c.args.process known c.args.holding) c.record-record.ensures
          (deadline_kept (replaces_readied was c.args.process known (stamps.awake (record (record_at was c.args.process) { owned = c.args.holding ∷ [] })) refl) refl) c.set_due.ensures.dues c.set_due.ensures.deadlines,
      owners_inherited was _ _ _ _ _ c.args.process c.args.holding c.self.invariant.2 c.inherit.ensures
          (disowns_by (replaces_readied was c.args.process known (stamps.awake (record (record_at was c.args.process) { owned = c.args.holding ∷ [] })) refl))
          c.leave.ensures.here c.leave.ensures.others c.add.ensures.same c.add.ensures.others (omega (arith, known, c.self.invariant.0.few)),
    )
