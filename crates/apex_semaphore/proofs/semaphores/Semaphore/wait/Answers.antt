use Rattle.std.proofs.Common.{rules}
use Rattle.apex_semaphore.proofs.semaphores.Semaphore.wait.Goals as goal

pub returns-in-Process : goal.returns-in-Process
returns-in-Process c = search rules
