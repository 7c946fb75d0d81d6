use Rattle.apex_laws.proofs.Sound.{sound_run}
use Rattle.apex_laws.proofs.values_stay_in_range.Goals as goal

pub returns : goal.returns
returns c table lawful events s within =
    let kept = (sound_run table lawful events).orderly.kept.semaphores s within in
    record { served = kept.holds.enough; most = kept.holds.bounded }
