use Rattle.std.proofs.Common.{refl}
use Rattle.apex_process.proofs.Renewals.{keeps_time}
use Rattle.apex_process.proofs.Kept.{kept_by}
use Rattle.apex_process.proofs.Timers.{timers_later}
use Rattle.apex_process.proofs.Owning.{owners_kept}
use Rattle.apex_process.proofs.queue_store.QueueStoreStore.advance_to.Goals as goal

pub invariant_of-self : goal.invariant_of-self
invariant_of-self c =
    let was = c.self.inside.records in (
      kept_by was _ _ c.self.inside.lists c.self.invariant.0 c.advance_to.ensures (keeps_time was c.args.instant c.self.invariant.0.stamped),
      timers_later was _ c.args.instant _ _ c.self.invariant.1 c.advance_to.ensures (rw (← c.self.view_is) at c.requires.dues) (rw (← c.self.view_is) at c.requires.deadlines),
      owners_kept was _ _ _ c.self.invariant.2 c.advance_to.ensures (λ q. refl),
    )
