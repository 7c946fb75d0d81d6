use Rattle.std.proofs.Common.{arith}
use Rattle.apex_process.proofs.Emptied.{opens_by, opens_owners_by}
use Rattle.apex_process.proofs.Timers.{opens_timers}
use Rattle.apex_process.proofs.queue_store.QueueStore.new.Goals as goal

pub invariant_of-result : goal.invariant_of-result
invariant_of-result c =
    let count = c.process_count-count.ensures in (
      opens_by c.args.table.now _ c.in_ok-lists.lists _ c.in_ok-records.ensures count.value (omega (arith, count.value, count.range)) c.in_ok-lists.ensures.links c.in_ok-lists.ensures.rows,
      rw (c.in_ok-records.ensures, c.in_ok-timers.ensures.dues, c.in_ok-timers.ensures.deadlines) (opens_timers c.args.table.now _ count.value),
      opens_owners_by c.args.table.now _ _ c.in_ok-records.ensures c.in_ok-owners.ensures,
    )
