use Rattle.apex_laws.proofs.Kept.{given_in_order}
use Rattle.apex_dispatch.proofs.laws.messages_come_in_order.Goals as goal

pub returns : goal.returns
returns g c =
    given_in_order c.args.kernel.now.table c.args.kernel.now.machine c.holds.ensures.lawful c.holds.ensures.replays
