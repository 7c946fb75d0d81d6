use Rattle.apex_alike.proofs.Complete.{same_canonical}
use Rattle.apex_alike.proofs.forms.alike_rosters_have_one_form.Goals as goal

pub returns : goal.returns
returns c = λ d first second alike. same_canonical alike
