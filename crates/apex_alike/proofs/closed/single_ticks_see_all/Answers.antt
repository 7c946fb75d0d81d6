use Rattle.apex_alike.proofs.SingleTicks.{single_ticks}
use Rattle.apex_alike.proofs.closed.single_ticks_see_all.Goals as goal

pub returns : goal.returns
returns c = single_ticks
