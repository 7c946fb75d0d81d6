use Rattle.std.proofs.Common.{◌≡◌, ◌+◌, ◌<◌, length, ap, arith}
use Rattle.apex_types.specs.Places.{map_places}
use Rattle.apex_machine.specs.services.SemaphoreServices.{semaphore_after}
use Rattle.apex_machine.specs.table.Table.{no_semaphore}
use Rattle.apex_types.proofs.Places.{get_or-map_places, length-map_places}
use Rattle.apex_dispatch.specs.Kernel.{KernelState}
use Rattle.apex_laws.specs.Laws.{AreInRange}
use Rattle.apex_laws.proofs.Kept.{never_later, sound, values_kept}
use Rattle.apex_dispatch.proofs.laws.values_and_dues_are_in_range.Goals as goal

pub returns-clause-running : goal.returns-clause-running
returns-clause-running g c s d within =
    let table = c.args.kernel.now.table in
    let history = c.args.kernel.now.machine.history in
    let read : c.args.kernel.now.objects.semaphores ≡ map_places (semaphore_after history) 0 table.semaphores =
    ap (λ (k : KernelState _). k.objects.semaphores) c.holds.ensures.values in
    let here : s < length table.semaphores =
    omega (arith, within, ap length read, length-map_places (semaphore_after history) 0 table.semaphores) in
    let values : AreInRange table history =
    values_kept table c.args.kernel.now.machine c.holds.ensures.lawful c.holds.ensures.replays in
    let place : 0 + s ≡ s = omega arith in
    rw (read, get_or-map_places (semaphore_after history) 0 table.semaphores s no_semaphore d here, place) (values s here).most

pub returns-clause-values : goal.returns-clause-values
returns-clause-values g c =
    values_kept c.args.kernel.now.table c.args.kernel.now.machine c.holds.ensures.lawful c.holds.ensures.replays

pub returns-clause-forward : goal.returns-clause-forward
returns-clause-forward g c =
    never_later c.args.kernel.now.table c.args.kernel.now.machine c.holds.ensures.lawful c.holds.ensures.replays

pub returns-clause-dues : goal.returns-clause-dues
returns-clause-dues g c p =
    ((sound c.args.kernel.now.table c.args.kernel.now.machine c.holds.ensures.lawful c.holds.ensures.replays).times p).due

pub returns-clause-deadlines : goal.returns-clause-deadlines
returns-clause-deadlines g c p =
    ((sound c.args.kernel.now.table c.args.kernel.now.machine c.holds.ensures.lawful c.holds.ensures.replays).times p).deadline
