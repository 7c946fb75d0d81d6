use Rattle.apex_machine.specs.Machine.{opening, run}
use Rattle.apex_laws.proofs.OwnedInOrder.{owned_in_order}
use Rattle.apex_laws.proofs.Sound.{sound_run}
use Rattle.apex_laws.proofs.mutexes_stay_owned_in_order.Goals as goal

pub returns : goal.returns
returns c table lawful events =
    let sound = (sound_run table lawful events).orderly in
    owned_in_order table (run table (opening table) events) sound.rules sound.owners
