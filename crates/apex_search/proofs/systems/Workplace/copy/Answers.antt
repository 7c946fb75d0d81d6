use Rattle.std.proofs.Common.{refl}
use Rattle.apex_search.proofs.systems.Workplace.copy.Goals as goal

pub returns-clause-copied : goal.returns-clause-copied
returns-clause-copied c = record { made = c.restore_known.result; is_made = refl; same = c.restore_known.ensures }
