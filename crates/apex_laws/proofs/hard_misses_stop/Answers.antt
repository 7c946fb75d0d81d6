use Rattle.apex_laws.proofs.HardMisses.{misses_stop}
use Rattle.apex_laws.proofs.hard_misses_stop.Goals as goal

pub returns : goal.returns
returns c = misses_stop
