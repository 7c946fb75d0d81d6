use Rattle.apex_alike.proofs.Situated.{closed_search}
use Rattle.apex_alike.proofs.closed.closed_search_sees_all.Goals as goal

pub returns : goal.returns
returns c = closed_search
