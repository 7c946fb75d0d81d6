use Rattle.apex_machine.specs.services.SemaphoreServices.{semaphore_kind}
use Rattle.apex_laws.proofs.Filled.{IsFilled}
use Rattle.apex_services.proofs.objects.semaphores_before.Given as goal

abbrev pub invariant-loop-place : goal.invariant-loop-place
invariant-loop-place l = IsFilled semaphore_kind l.table.semaphores l.place l.place-end l.semaphores.items
