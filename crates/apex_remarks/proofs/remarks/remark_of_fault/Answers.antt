use Rattle.std.proofs.Common.{rules}
use Rattle.apex_remarks.proofs.remarks.remark_of_fault.Goals as goal

pub returns-clause-head : goal.returns-clause-head
returns-clause-head c = search rules
