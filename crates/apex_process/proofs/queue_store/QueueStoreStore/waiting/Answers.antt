use Rattle.std.proofs.Common.{◌∙◌}
use Rattle.apex_waitq.specs.WaitQueues.{wait_list}
use Rattle.apex_process.proofs.Waiting.{count_is}
use Rattle.apex_process.proofs.queue_store.QueueStoreStore.waiting.Goals as goal

pub returns : goal.returns
returns c = rw (← c.self.view_is) (c.count.ensures.value
    ∙ count_is c.self.inside.records c.self.inside.lists c.self.invariant.0 c.args.queue c.count.ensures.numbered (c.count.ensures.sound.distinct (wait_list c.args.queue)))
