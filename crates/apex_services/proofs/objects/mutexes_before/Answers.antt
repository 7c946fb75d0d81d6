use Rattle.apex_machine.specs.services.MutexServices.{mutex_kind}
use Rattle.apex_machine.specs.table.Table.{no_mutex}
use Rattle.apex_laws.proofs.Filled.{filled_next}
use Rattle.std.proofs.Common.{arith}
use Rattle.std.proofs.lemmas.Grind.{common_steps}
use Rattle.apex_services.proofs.objects.mutexes_before.Goals as goal

pub loop-place-preserved : goal.loop-place-preserved
loop-place-preserved c =
    rw (c.in_ok-push.ensures.items, c.new.ensures)
    (filled_next mutex_kind c.args.table.now.mutexes no_mutex c.loop-place.place _ _ c.loop-place.invariant c.loop-place-test.true)

pub returns : goal.returns
returns c = grind (arith, common_steps)
