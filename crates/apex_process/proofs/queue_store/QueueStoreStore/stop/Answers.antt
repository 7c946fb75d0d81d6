use Rattle.std.proofs.Common.{[], refl, rules}
use Rattle.apex_machine.specs.processes.Roster.{record_at}
use Rattle.apex_machine.specs.processes.Stamps.{stopped}
use Rattle.apex_machine.proofs.Replaces.{replaces_record}
use Rattle.apex_process.proofs.Renewals.{none_stop, renews_stop}
use Rattle.apex_process.proofs.Kept.{left_by}
use Rattle.apex_process.proofs.Timers.{both_known, retimes_stop}
use Rattle.apex_process.proofs.Owning.{disowns_by, owners_changed}
use Rattle.apex_process.proofs.queue_store.QueueStoreStore.stop.Goals as goal

pub invariant_of-self : goal.invariant_of-self
invariant_of-self c =
    let was = c.self.inside.records in
    let known = rw (← c.self.view_is) at c.requires.known in
    let has = replaces_record was c.args.process known (stopped (record_at was c.args.process)) refl 0 in (
      left_by was _ _ c.self.inside.lists _ c.args.process c.self.invariant.0 c.stop.ensures (renews_stop was c.args.process known c.self.invariant.0.stamped)
          (none_stop was c.args.process known c.self.invariant.0.stamped) c.leave.ensures.links c.leave.ensures.priorities,
      both_known was _ _ c.self.inside.timers.dues c.self.inside.timers.deadlines _ _ c.args.process c.self.invariant.1 c.stop.ensures has (retimes_stop was c.args.process known) _ _
          c.set_due.ensures.dues c.set_due.ensures.deadlines c.set_deadline.ensures.dues c.set_deadline.ensures.deadlines,
      owners_changed was _ _ _ _ c.args.process [] c.self.invariant.2 c.stop.ensures (disowns_by has)
          c.leave-2.ensures.here (λ m q _. c.leave-2.ensures.others m q),
    )

pub leave-requires-2-clause-held : goal.leave-requires-2-clause-held
leave-requires-2-clause-held c = search rules
