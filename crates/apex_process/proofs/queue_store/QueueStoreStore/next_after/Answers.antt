use Rattle.std.proofs.Common.{◌∙◌}
use Rattle.apex_waitq.specs.WaitQueues.{wait_list}
use Rattle.apex_process.proofs.Waiting.{next_is, next_known, numbered, stands}
use Rattle.apex_process.proofs.queue_store.QueueStoreStore.next_after.Goals as goal

pub returns-clause-value : goal.returns-clause-value
returns-clause-value c =
    let was = c.self.inside.records in
    let is = c.self.invariant.0 in
    let waits = rw (← c.self.view_is) at c.requires.waits in
    let i = numbered was c.self.inside.lists is c.args._queue c.args.process waits in
    let there = stands was c.self.inside.lists is c.args._queue i c.args.process waits in
    rw (← c.self.view_is) (c.next.ensures (wait_list c.args._queue) there ∙ next_is was c.self.inside.lists is c.args._queue i c.args.process there)

pub returns-clause-known : goal.returns-clause-known
returns-clause-known c =
    let was = c.self.inside.records in
    let is = c.self.invariant.0 in
    let waits = rw (← c.self.view_is) at c.requires.waits in
    let i = numbered was c.self.inside.lists is c.args._queue c.args.process waits in
    let there = stands was c.self.inside.lists is c.args._queue i c.args.process waits in
    rw (← c.self.view_is, c.next.ensures (wait_list c.args._queue) there) (next_known was c.self.inside.lists is c.args._queue i c.args.process there)
