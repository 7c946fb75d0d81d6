use Rattle.std.proofs.Common.{arith}
use Rattle.std.proofs.lemmas.Grind.{common_steps}
use Rattle.apex_services.proofs.services.serve.Goals as goal

pub returns-in-Process : goal.returns-in-Process
returns-in-Process g c = grind (arith, common_steps)

pub returns-in-Semaphore : goal.returns-in-Semaphore
returns-in-Semaphore g c = grind (arith, common_steps)

pub returns-in-Buffer : goal.returns-in-Buffer
returns-in-Buffer g c = grind (arith, common_steps)

pub returns-in-Blackboard : goal.returns-in-Blackboard
returns-in-Blackboard g c = grind (arith, common_steps)

pub returns-in-EventFlag : goal.returns-in-EventFlag
returns-in-EventFlag g c = grind (arith, common_steps)

pub returns-in-Mutex : goal.returns-in-Mutex
returns-in-Mutex g c = grind (arith, common_steps)
