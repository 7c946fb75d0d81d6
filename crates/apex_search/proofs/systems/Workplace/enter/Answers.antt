use Rattle.std.proofs.Common.{refl}
use Rattle.apex_search.proofs.systems.Workplace.enter.Goals as goal

pub returns-clause-inside : goal.returns-clause-inside
returns-clause-inside c = record { here = c.restore.result; is_here = refl; same = c.restore.ensures }
