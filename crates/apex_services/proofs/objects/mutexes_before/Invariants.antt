use Rattle.apex_machine.specs.services.MutexServices.{mutex_kind}
use Rattle.apex_laws.proofs.Filled.{IsFilled}
use Rattle.apex_services.proofs.objects.mutexes_before.Given as goal

abbrev pub invariant-loop-place : goal.invariant-loop-place
invariant-loop-place l = IsFilled mutex_kind l.table.mutexes l.place l.place-end l.mutexes.items
