use Rattle.apex_machine.specs.services.BlackboardServices.{blackboard_kind}
use Rattle.apex_laws.proofs.Filled.{IsFilled}
use Rattle.apex_services.proofs.objects.blackboards_before.Given as goal

abbrev pub invariant-loop-place : goal.invariant-loop-place
invariant-loop-place l = IsFilled blackboard_kind l.table.blackboards l.place l.place-end l.blackboards.items
