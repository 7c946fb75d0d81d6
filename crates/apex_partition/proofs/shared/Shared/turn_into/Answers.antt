use Rattle.std.proofs.Common.{rules}
use Rattle.apex_partition.proofs.shared.Shared.turn_into.Goals as goal

pub returns-clause-ok : goal.returns-clause-ok
returns-clause-ok c = search rules
