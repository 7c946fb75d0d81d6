use Rattle.apex_alike.proofs.Situated.{closed_sees}
use Rattle.apex_alike.proofs.closed.closed_situations_see_all.Goals as goal

pub returns : goal.returns
returns c = closed_sees
