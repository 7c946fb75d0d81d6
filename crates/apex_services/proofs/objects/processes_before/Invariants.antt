use Rattle.apex_machine.specs.services.ProcessServices.{process_kind}
use Rattle.apex_laws.proofs.Filled.{IsFilled}
use Rattle.apex_services.proofs.objects.processes_before.Given as goal

abbrev pub invariant-loop-place : goal.invariant-loop-place
invariant-loop-place l = IsFilled process_kind l.table.processes l.place l.place-end l.processes.items
