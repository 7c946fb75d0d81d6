use Rattle.apex_recall.proofs.Storable.{form_fits}
use Rattle.apex_recall.proofs.premises.forms_fit.Goals as goal

pub returns : goal.returns
returns c table lawful pace is_pace few = form_fits table lawful pace
