use Rattle.apex_pace.proofs.Idle.{no_idle}
use Rattle.apex_pace.proofs.laws.no_turn_is_idle.Goals as goal

pub returns : goal.returns
returns c = no_idle
