use Rattle.std.proofs.Common.{rules}
use Rattle.apex_store.proofs.scan.RunnableOrder.passes.Goals as goal

pub returns : goal.returns
returns c = search rules
