use Rattle.std.proofs.Common.{sym, ◌∙◌, refl}
use Rattle.apex_machine.specs.processes.Roster.{record_at}
use Rattle.apex_machine.proofs.Replaces.{replaces_levelled}
use Rattle.apex_process.proofs.Renewals.{ages_own, keeps_own}
use Rattle.apex_process.proofs.Kept.{aged_row, kept_by}
use Rattle.apex_process.proofs.Timers.{timers_kept, timers_own}
use Rattle.apex_process.proofs.Owning.{disowns_by, owners_changed}
use Rattle.apex_process.proofs.queue_store.QueueStoreStore.own.Goals as goal

pub invariant_of-self : goal.invariant_of-self
invariant_of-self c =
    let was = c.self.inside.records in
    let known = rw (← c.self.view_is) at c.requires.known in
    let eligible = rw (← c.self.view_is) at c.requires.eligible in
    let differs = rw c.record-record.ensures at (sym c.stays_level-is_level.ensures ∙ c.if-not-is_level.true) in (
      aged_row was _ _ c.self.inside.lists _ c.args.process c.record-moved.result.now c.self.invariant.0 c.own.ensures
          (ages_own was c.args.process c.args.owned known c.self.invariant.0.stamped eligible differs) c.record-moved.ensures
          c.put_oldest.ensures.links c.put_oldest.ensures.priorities c.put_oldest.ensures.core c.put_oldest.ensures.priority,
      timers_kept was _ _ c.self.inside.timers.dues c.self.inside.timers.deadlines c.self.invariant.1 c.own.ensures (timers_own was c.args.process known c.args.owned),
      owners_changed was _ _ _ _ c.args.process c.args.owned c.self.invariant.2 c.own.ensures
          (disowns_by (replaces_levelled was c.args.process known (record (record_at was c.args.process) { owned = c.args.owned }) refl))
          (rw c.as_slice-2.ensures.value at c.change.ensures.here) (λ m q _. c.change.ensures.others m q),
    )

pub invariant_of-self-else-not-is_level : goal.invariant_of-self-else-not-is_level
invariant_of-self-else-not-is_level c =
    let was = c.self.inside.records in
    let known = rw (← c.self.view_is) at c.requires.known in
    let level = rw c.record-record.ensures at (sym c.stays_level-is_level.ensures ∙ c.if-not-is_level.false) in (
      kept_by was _ _ c.self.inside.lists c.self.invariant.0 c.own.ensures (keeps_own was c.args.process c.args.owned known c.self.invariant.0.stamped level),
      timers_kept was _ _ c.self.inside.timers.dues c.self.inside.timers.deadlines c.self.invariant.1 c.own.ensures (timers_own was c.args.process known c.args.owned),
      owners_changed was _ _ _ _ c.args.process c.args.owned c.self.invariant.2 c.own.ensures
          (disowns_by (replaces_levelled was c.args.process known (record (record_at was c.args.process) { owned = c.args.owned }) refl))
          (rw c.as_slice-2.ensures.value at c.change.ensures.here) (λ m q _. c.change.ensures.others m q),
    )
