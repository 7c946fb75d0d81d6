use Rattle.apex_store.proofs.Queues.{one_queue}
use Rattle.apex_store.proofs.laws.waits_in_one_queue.Goals as goal

pub returns : goal.returns
returns g c = one_queue _
