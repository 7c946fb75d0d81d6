use Rattle.std.proofs.Common.{rules}
use Rattle.apex_ready.proofs.orders.ReadyOrders.enter_newest.Goals as goal

pub returns-clause-links : goal.returns-clause-links
returns-clause-links c = search rules
