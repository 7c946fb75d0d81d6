use Rattle.apex_machine.specs.services.ProcessServices.{process_kind}
use Rattle.apex_machine.specs.table.Table.{no_process}
use Rattle.apex_laws.proofs.Filled.{filled_next}
use Rattle.std.proofs.Common.{arith}
use Rattle.std.proofs.lemmas.Grind.{common_steps}
use Rattle.apex_services.proofs.objects.processes_before.Goals as goal

pub loop-place-preserved : goal.loop-place-preserved
loop-place-preserved c =
    rw (c.in_ok-push.ensures.items, c.new.ensures)
    (filled_next process_kind c.args.table.now.processes no_process c.loop-place.place _ _ c.loop-place.invariant c.loop-place-test.true)

pub returns : goal.returns
returns c = grind (arith, common_steps)
