use Rattle.apex_machine.specs.services.EventFlagServices.{event_flag_kind}
use Rattle.apex_machine.specs.table.Table.{no_event_flag}
use Rattle.apex_laws.proofs.Filled.{filled_next}
use Rattle.std.proofs.Common.{arith}
use Rattle.std.proofs.lemmas.Grind.{common_steps}
use Rattle.apex_services.proofs.objects.event_flags_before.Goals as goal

pub loop-place-preserved : goal.loop-place-preserved
loop-place-preserved c =
    rw (c.in_ok-push.ensures.items, c.new.ensures)
    (filled_next event_flag_kind c.args.table.now.event_flags no_event_flag c.loop-place.place _ _ c.loop-place.invariant c.loop-place-test.true)

pub returns : goal.returns
returns c = grind (arith, common_steps)
