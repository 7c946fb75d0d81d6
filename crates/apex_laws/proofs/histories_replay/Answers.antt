use Rattle.apex_laws.proofs.Sound.{sound_run}
use Rattle.apex_laws.proofs.histories_replay.Goals as goal

pub returns : goal.returns
returns c table lawful events = (sound_run table lawful events).replays
