use Rattle.std.proofs.Common.{rules}
use Rattle.apex_remarks.proofs.remarks.told.Goals as goal

pub returns : goal.returns
returns c = search rules
