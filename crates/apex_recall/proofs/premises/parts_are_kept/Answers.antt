use Rattle.apex_recall.proofs.Kept.{parts_kept}
use Rattle.apex_recall.proofs.premises.parts_are_kept.Goals as goal

pub returns : goal.returns
returns c = parts_kept
