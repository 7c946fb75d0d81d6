use Rattle.apex_laws.proofs.Unbroken.{ends_as_it_was_kept}
use Rattle.apex_laws.proofs.work_ends_as_it_was_kept.Goals as goal

pub returns : goal.returns
returns c = ends_as_it_was_kept
