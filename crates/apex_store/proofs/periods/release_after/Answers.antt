use Rattle.std.proofs.Common.{rules}
use Rattle.apex_store.proofs.periods.release_after.Goals as goal

pub returns-clause-value : goal.returns-clause-value
returns-clause-value c = search rules
