use Rattle.std.proofs.Common.{◌≡◌, ◌<◌, length, None, Some, refl, sym, ◌∙◌}
use Rattle.apex_machine.specs.processes.Dues.{first_missed}
use Rattle.apex_machine.specs.processes.Roster.{record_at}
use Rattle.apex_machine.proofs.Dues.{first_missed_within}
use Rattle.apex_machine.proofs.Replaces.{replaces_record}
use Rattle.apex_process.proofs.Renewals.{keeps_deadline}
use Rattle.apex_process.proofs.Kept.{kept_by}
use Rattle.apex_process.proofs.Timers.{deadline_known, no_due, retimes_deadline}
use Rattle.apex_process.proofs.Firsts.{missed_is, none_taken, taken_reset}
use Rattle.apex_process.proofs.Owning.{own_by, owners_kept}
use Rattle.apex_process.proofs.queue_store.QueueStoreStore.take_missed.Goals as goal

pub returns-in_err-process-clause-value : goal.returns-in_err-process-clause-value
returns-in_err-process-clause-value c =
    let found = missed_is c.self.inside.records c.self.inside.timers.dues c.self.inside.timers.deadlines c.self.invariant.1 c.holds.ensures.deadlines in
    rw (← c.self.view_is) (c.from_residual.ensures ∙ sym c.in_err-process.was ∙ rw c.now.ensures at c.pop_deadline_at.ensures.value ∙ found)

pub returns-in_err-process-clause-taken : goal.returns-in_err-process-clause-taken
returns-in_err-process-clause-taken c =
    let found = missed_is c.self.inside.records c.self.inside.timers.dues c.self.inside.timers.deadlines c.self.invariant.1 c.holds.ensures.deadlines in
    let nobody : first_missed c.self.inside.records ≡ None = sym found ∙ sym (rw c.now.ensures at c.pop_deadline_at.ensures.value) ∙ c.in_err-process.was in
    rw (← c.self.view_is, nobody) refl

pub invariant_of-self : goal.invariant_of-self
invariant_of-self c =
    let none = sym c.pop_deadline_at.ensures.value ∙ c.in_err-process.was in
    let stays = none_taken c.self.inside.timers.deadlines _ c.now.result none c.pop_deadline_at.ensures.deadlines in
    (c.self.invariant.0, rw (stays, c.pop_deadline_at.ensures.dues) c.self.invariant.1, c.self.invariant.2)

pub invariant_of-self-2 : goal.invariant_of-self-2
invariant_of-self-2 c =
    let was = c.self.inside.records in
    let p = c.in_ok-process.process in
    let found = missed_is was c.self.inside.timers.dues c.self.inside.timers.deadlines c.self.invariant.1 c.holds.ensures.deadlines in
    let popped = rw c.now.ensures at c.pop_deadline_at.ensures.value in
    let is : first_missed was ≡ Some p = sym found ∙ sym popped ∙ c.in_ok-process.was in
    let known : p < length was.records = first_missed_within was p is in
    let has = replaces_record was p known (record (record_at was p) { deadline = None }) refl 0 in
    let reset = taken_reset c.self.inside.timers.deadlines _ p c.now.result c.holds.ensures.deadlines (rw c.in_ok-process.was at c.pop_deadline_at.ensures.known)
    (sym c.pop_deadline_at.ensures.value ∙ c.in_ok-process.was) c.pop_deadline_at.ensures.deadlines in (
      kept_by was _ _ c.self.inside.lists c.self.invariant.0 c.set_deadline.ensures (keeps_deadline was p known c.self.invariant.0.stamped None),
      deadline_known was _ _ c.self.inside.timers.dues c.self.inside.timers.deadlines _ _ p c.self.invariant.1 c.set_deadline.ensures has
          (retimes_deadline was p known None (no_due was.now)) refl c.pop_deadline_at.ensures.dues reset,
      owners_kept was _ _ _ c.self.invariant.2 c.set_deadline.ensures (own_by has refl),
    )

pub returns-clause-value : goal.returns-clause-value
returns-clause-value c =
    let found = missed_is c.self.inside.records c.self.inside.timers.dues c.self.inside.timers.deadlines c.self.invariant.1 c.holds.ensures.deadlines in
    rw (← c.self.view_is) (sym c.in_ok-process.was ∙ rw c.now.ensures at c.pop_deadline_at.ensures.value ∙ found)

pub returns-clause-taken : goal.returns-clause-taken
returns-clause-taken c =
    let found = missed_is c.self.inside.records c.self.inside.timers.dues c.self.inside.timers.deadlines c.self.invariant.1 c.holds.ensures.deadlines in
    let is : first_missed c.self.inside.records ≡ Some c.in_ok-process.process = sym found ∙ sym (rw c.now.ensures at c.pop_deadline_at.ensures.value) ∙ c.in_ok-process.was in
    rw (← c.self.view_is, is) c.set_deadline.ensures

pub returns-clause-known : goal.returns-clause-known
returns-clause-known c =
    let found = missed_is c.self.inside.records c.self.inside.timers.dues c.self.inside.timers.deadlines c.self.invariant.1 c.holds.ensures.deadlines in
    let is : first_missed c.self.inside.records ≡ Some c.in_ok-process.process = sym found ∙ sym (rw c.now.ensures at c.pop_deadline_at.ensures.value) ∙ c.in_ok-process.was in
    rw (← c.self.view_is) (first_missed_within c.self.inside.records c.in_ok-process.process is)
