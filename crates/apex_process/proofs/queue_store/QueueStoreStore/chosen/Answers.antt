use Rattle.apex_process.proofs.States.{ready_lists_are}
use Rattle.apex_process.proofs.Top.{found_chosen, found_known}
use Rattle.apex_process.proofs.queue_store.QueueStoreStore.chosen.Goals as goal

pub returns-clause-value : goal.returns-clause-value
returns-clause-value c =
    let is = c.self.invariant.0 in
    rw (← c.self.view_is) (found_chosen c.self.inside.records c.self.inside.lists.links c.args.core (ready_lists_are c.self.inside.records c.self.inside.lists is) is.places c.top.ensures.known c.top.result c.top.ensures.value)

pub returns-clause-known : goal.returns-clause-known
returns-clause-known c =
    let is = c.self.invariant.0 in
    rw (← c.self.view_is) (found_known c.self.inside.records c.self.inside.lists.links c.args.core (ready_lists_are c.self.inside.records c.self.inside.lists is) is.places c.top.ensures.known c.top.result c.top.ensures.value)
