use Rattle.apex_search.proofs.FormSteps.{forms_stand}
use Rattle.apex_search.proofs.laws.forms_stand_for_situations.Goals as goal

pub returns : goal.returns
returns c = forms_stand
