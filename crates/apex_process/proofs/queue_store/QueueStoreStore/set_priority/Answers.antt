use Rattle.std.proofs.Common.{sym, ◌∙◌}
use Rattle.apex_process.proofs.Renewals.{keeps_priority, renews_priority}
use Rattle.apex_process.proofs.Kept.{kept_by, renewed_row}
use Rattle.apex_process.proofs.Timers.{timers_priority, timers_kept}
use Rattle.apex_process.proofs.Owning.{own_priority, owners_kept}
use Rattle.apex_process.proofs.queue_store.QueueStoreStore.set_priority.Goals as goal

pub invariant_of-self : goal.invariant_of-self
invariant_of-self c =
    let was = c.self.inside.records in
    let known = rw (← c.self.view_is) at c.requires.known in (
      renewed_row was _ _ c.self.inside.lists _ c.args.process c.record-moved.result.now known c.self.invariant.0 c.set_priority.ensures
          (renews_priority was c.args.process c.args.base known c.self.invariant.0.stamped (rw c.record-record.ensures at (sym c.moves_at-moves.ensures ∙ c.if-moves.true))) c.record-moved.ensures c.put_newest.ensures.links c.put_newest.ensures.priorities c.put_newest.ensures.place,
      timers_kept was _ _ c.self.inside.timers.dues c.self.inside.timers.deadlines c.self.invariant.1 c.set_priority.ensures (timers_priority was c.args.process known c.args.base),
      owners_kept was _ _ _ c.self.invariant.2 c.set_priority.ensures (own_priority was c.args.process known c.args.base),
    )

pub invariant_of-self-else-moves : goal.invariant_of-self-else-moves
invariant_of-self-else-moves c =
    let was = c.self.inside.records in
    let known = rw (← c.self.view_is) at c.requires.known in (
      kept_by was _ _ c.self.inside.lists c.self.invariant.0 c.set_priority.ensures (keeps_priority was c.args.process c.args.base known c.self.invariant.0.stamped (rw c.record-record.ensures at (sym c.moves_at-moves.ensures ∙ c.if-moves.false))),
      timers_kept was _ _ c.self.inside.timers.dues c.self.inside.timers.deadlines c.self.invariant.1 c.set_priority.ensures (timers_priority was c.args.process known c.args.base),
      owners_kept was _ _ _ c.self.invariant.2 c.set_priority.ensures (own_priority was c.args.process known c.args.base),
    )
