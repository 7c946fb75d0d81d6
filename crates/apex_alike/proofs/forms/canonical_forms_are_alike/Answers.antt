use Rattle.apex_alike.proofs.Canonical.{canonical_situation}
use Rattle.apex_alike.proofs.forms.canonical_forms_are_alike.Goals as goal

pub returns : goal.returns
returns c = canonical_situation
