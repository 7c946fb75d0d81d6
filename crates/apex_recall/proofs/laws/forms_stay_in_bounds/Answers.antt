use Rattle.apex_recall.proofs.ReachedNext.{forms_reach}
use Rattle.apex_recall.proofs.laws.forms_stay_in_bounds.Goals as goal

pub returns : goal.returns
returns c = forms_reach
