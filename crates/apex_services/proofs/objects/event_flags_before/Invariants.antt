use Rattle.apex_machine.specs.services.EventFlagServices.{event_flag_kind}
use Rattle.apex_laws.proofs.Filled.{IsFilled}
use Rattle.apex_services.proofs.objects.event_flags_before.Given as goal

abbrev pub invariant-loop-place : goal.invariant-loop-place
invariant-loop-place l = IsFilled event_flag_kind l.table.event_flags l.place l.place-end l.event_flags.items
