use Rattle.apex_recall.proofs.Ready.{form_ready}
use Rattle.apex_recall.proofs.premises.forms_are_ready.Goals as goal

pub returns : goal.returns
returns c table lawful pace is_pace few s reached =
    form_ready pace few table lawful s reached (c.forms_fit.ensures table lawful pace is_pace few s reached)
