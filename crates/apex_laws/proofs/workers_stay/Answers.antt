use Rattle.apex_laws.proofs.Sound.{sound_run}
use Rattle.apex_laws.proofs.workers_stay.Goals as goal

pub returns : goal.returns
returns c table lawful events core o is = ((sound_run table lawful events).workers core o is).bound
