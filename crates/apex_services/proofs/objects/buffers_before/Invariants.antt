use Rattle.apex_machine.specs.services.BufferServices.{buffer_kind}
use Rattle.apex_laws.proofs.Filled.{IsFilled}
use Rattle.apex_services.proofs.objects.buffers_before.Given as goal

abbrev pub invariant-loop-place : goal.invariant-loop-place
invariant-loop-place l = IsFilled buffer_kind l.table.buffers l.place l.place-end l.buffers.items
