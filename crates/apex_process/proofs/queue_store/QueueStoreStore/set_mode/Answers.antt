use Rattle.std.proofs.Common.{refl, sym, ◌∙◌}
use Rattle.apex_process.proofs.Emptied.{cleared_by}
use Rattle.apex_process.proofs.Renewals.{keeps_mode}
use Rattle.apex_process.proofs.Kept.{kept_by}
use Rattle.apex_process.proofs.Timers.{timers_kept, timers_mode}
use Rattle.apex_process.proofs.Owning.{owners_kept}
use Rattle.apex_process.proofs.queue_store.QueueStoreStore.set_mode.Goals as goal

pub invariant_of-self : goal.invariant_of-self
invariant_of-self c =
    let was = c.self.inside.records in (
      cleared_by was _ c.self.inside.lists _ c.args.mode c.self.invariant.0 c.set_mode.ensures (sym c.is_normal.ensures ∙ c.if-not-is_normal.true) c.clear.ensures.links c.clear.ensures.priorities,
      timers_kept was _ _ c.self.inside.timers.dues c.self.inside.timers.deadlines c.self.invariant.1 c.set_mode.ensures (timers_mode was c.args.mode),
      owners_kept was _ _ _ c.self.invariant.2 c.set_mode.ensures (λ q. refl),
    )

pub invariant_of-self-else-not-is_normal : goal.invariant_of-self-else-not-is_normal
invariant_of-self-else-not-is_normal c =
    let was = c.self.inside.records in (
      kept_by was _ _ c.self.inside.lists c.self.invariant.0 c.set_mode.ensures
          (keeps_mode was c.args.mode c.self.invariant.0.stamped (rw (← c.self.view_is) at c.requires) (sym c.is_normal.ensures ∙ c.if-not-is_normal.false)),
      timers_kept was _ _ c.self.inside.timers.dues c.self.inside.timers.deadlines c.self.invariant.1 c.set_mode.ensures (timers_mode was c.args.mode),
      owners_kept was _ _ _ c.self.invariant.2 c.set_mode.ensures (λ q. refl),
    )
