use Rattle.std.proofs.Common.{rules}
use Rattle.apex_check.proofs.checking.write_verdict.Goals as goal

pub returns-clause-bytes : goal.returns-clause-bytes
returns-clause-bytes c = search rules
