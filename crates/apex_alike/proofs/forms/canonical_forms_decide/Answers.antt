use Rattle.apex_alike.proofs.OneForm.{forms_decide}
use Rattle.apex_alike.proofs.forms.canonical_forms_decide.Goals as goal

pub returns : goal.returns
returns c = forms_decide
