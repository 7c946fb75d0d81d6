use Rattle.std.proofs.Common.{arith}
use Rattle.std.proofs.lemmas.Grind.{common_steps}
use Rattle.apex_store.proofs.plain_store.PlainStoreStore.own.Goals as goal

pub returns-then-current_priority-before : goal.returns-then-current_priority-before
returns-then-current_priority-before c = grind (arith, common_steps)

pub returns-else-current_priority-before : goal.returns-else-current_priority-before
returns-else-current_priority-before c = grind (arith, common_steps)
