use Rattle.std.proofs.Common.{arith}
use Rattle.apex_ready.proofs.Marks.{cleared}
use Rattle.apex_ready.proofs.orders.ReadyOrders.clear.Goals as goal

pub returns : goal.returns
returns c = rw (← c.self.view_is, c.place-place.ensures.value) (cleared c.self.inside.words c.args.list c.self.told c.requires)
