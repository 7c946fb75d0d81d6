-- The moments of a run are in order.
use Rattle.apex_moments.proofs.Order.{in_order}
use Rattle.apex_moments.proofs.laws.moments_are_in_order.Goals as goal

pub returns : goal.returns
returns c = in_order
