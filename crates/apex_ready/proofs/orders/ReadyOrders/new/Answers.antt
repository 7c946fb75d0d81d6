use Rattle.apex_ready.proofs.Marks.{none_marked}
use Rattle.apex_ready.proofs.orders.ReadyOrders.new.Goals as goal

pub returns : goal.returns
returns c = none_marked 32
