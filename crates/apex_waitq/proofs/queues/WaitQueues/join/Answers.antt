use Rattle.std.proofs.Common.{◌≤◌, arith}
use Rattle.apex_links.specs.Links.{list_at}
use Rattle.apex_links.specs.declared.numbers.TheConstants.{READY_LISTS}
use Rattle.apex_waitq.proofs.Counts.{count_is, entered_counted, length_queued}
use Rattle.apex_waitq.proofs.queues.WaitQueues.join.Goals as goal

pub overflow_add-index_mut : goal.overflow_add-index_mut
overflow_add-index_mut c =
    let place = c.place-2.ensures.value in
    let list = c.wait_list-list.ensures.value in
    let from : READY_LISTS ≤ c.wait_list-list.result = rw list (omega arith) in
    let counted = rw (← c.self.view_is) at c.requires.counted in
    let is = count_is _ c.args.links.now c.wait_list-list.result c.index_mut-2.result.now counted c.self.invariant from c.wait_list-list.ensures.known (rw place at c.index_mut-2.ensures.value) in
    omega (arith, is, c.holds.ensures.short c.wait_list-list.result, c.requires.few_processes)

pub returns-clause-counted : goal.returns-clause-counted
returns-clause-counted c =
    let place = c.place-2.ensures.value in
    let list = c.wait_list-list.ensures.value in
    let from : READY_LISTS ≤ c.wait_list-list.result = rw list (omega arith) in
    let counted = rw (← c.self.view_is) at c.requires.counted in
    let longer = length_queued c.args.discipline _ c.args.process c.args.priority (list_at c.args.links.now c.wait_list-list.result) in
    rw (place, c.enter.ensures) (entered_counted _ c.args.links.now c.wait_list-list.result c.index_mut-2.result.now _ counted c.self.invariant c.requires.lists
    from c.wait_list-list.ensures.known (rw place at c.index_mut-2.ensures.value) longer)
