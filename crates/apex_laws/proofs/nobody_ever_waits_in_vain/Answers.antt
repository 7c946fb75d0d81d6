use Rattle.apex_machine.specs.Machine.{opening, run}
use Rattle.apex_laws.proofs.InVain.{none_in_vain}
use Rattle.apex_laws.proofs.Sound.{sound_run}
use Rattle.apex_laws.proofs.nobody_ever_waits_in_vain.Goals as goal

pub returns : goal.returns
returns c table lawful events =
    none_in_vain table (run table (opening table) events) (sound_run table lawful events).orderly.kept
