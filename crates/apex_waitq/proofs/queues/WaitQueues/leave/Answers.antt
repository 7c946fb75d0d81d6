use Rattle.std.proofs.Common.{◌≢◌, ℕ, ◌+◌, ◌<◌, arith}
use Rattle.apex_links.specs.declared.numbers.TheConstants.{QUEUE_LISTS, READY_LISTS}
use Rattle.apex_waitq.proofs.Counts.{free_counted, left_counted, outside_counted}
use Rattle.apex_waitq.proofs.queues.WaitQueues.leave.Goals as goal
use Rattle.apex_waitq.proofs.queues.WaitQueues.leave.Goals.{else-place-ge-READY_LISTS-via-then-place-ge-READY_LISTS+else-place-lt-ALL_LISTS, else-place-ge-READY_LISTS-via-else-place-ge-READY_LISTS}

pub returns-then-place-lt-ALL_LISTS-clause-counted : goal.returns-then-place-lt-ALL_LISTS-clause-counted
returns-then-place-lt-ALL_LISTS-clause-counted c =
    let counted = rw (← c.self.view_is) at c.requires.counted in
    let place = c.place-place.ensures.value in
    rw (c.take.ensures.lists, place) (left_counted _ c.args.links.now c.args.process counted c.in-Some.list c.in-Some.ensures.list c.index_mut.result.now
    c.self.invariant (rw place at c.if-place-ge-READY_LISTS.true) (rw place at c.if-place-lt-ALL_LISTS.true) (rw place at c.index_mut.ensures.value))

pub returns-else-place-ge-READY_LISTS-clause-counted : goal.returns-else-place-ge-READY_LISTS-clause-counted
returns-else-place-ge-READY_LISTS-clause-counted c =
    let place = c.place-place.ensures.value in
    let outside : (m : ℕ) → m < QUEUE_LISTS → c.in-Some.list ≢ READY_LISTS + m = λ m inside is. elim c.else-place-ge-READY_LISTS.branch [
      | else-place-ge-READY_LISTS-via-then-place-ge-READY_LISTS+else-place-lt-ALL_LISTS v ↦ absurd (omega (arith, is, inside, place, v.if-place-lt-ALL_LISTS.false))
      | else-place-ge-READY_LISTS-via-else-place-ge-READY_LISTS v ↦ absurd (omega (arith, is, place, v.if-place-ge-READY_LISTS.false))
    ] in
    rw c.take.ensures.lists (outside_counted _ c.args.links.now c.args.process c.requires.counted c.in-Some.list c.in-Some.ensures.list outside)

pub returns-in_default-clause-counted : goal.returns-in_default-clause-counted
returns-in_default-clause-counted c =
    rw c.take.ensures.lists (free_counted _ c.args.links.now c.args.process c.requires.counted (rw c.in_default.is at c.take.ensures.list))
