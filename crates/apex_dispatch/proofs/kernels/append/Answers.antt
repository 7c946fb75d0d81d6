use Rattle.std.proofs.Common.{rules}
use Rattle.apex_dispatch.proofs.kernels.append.Goals as goal

pub returns-clause-entries : goal.returns-clause-entries
returns-clause-entries c = search rules
