use Rattle.std.proofs.Common.{arith}
use Rattle.std.proofs.lemmas.Grind.{common_steps}
use Rattle.apex_store.proofs.plain_store.PlainStoreStore.unblock.Goals as goal

pub returns-then-is_ready : goal.returns-then-is_ready
returns-then-is_ready c = grind (arith, common_steps)

pub returns-else-is_ready : goal.returns-else-is_ready
returns-else-is_ready c = grind (arith, common_steps)
