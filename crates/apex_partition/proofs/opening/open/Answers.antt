use Rattle.std.proofs.Common.{rules}
use Rattle.apex_partition.proofs.opening.open.Goals as goal

pub open_read-requires-clause-table : goal.open_read-requires-clause-table
open_read-requires-clause-table c = search rules
