use Rattle.std.proofs.Common.{rules}
use Rattle.apex_semaphore.proofs.semaphores.Semaphore.signal.Goals as goal

pub returns-in-Some : goal.returns-in-Some
returns-in-Some c = search rules
