-- The times of a dump rise.
use Rattle.apex_waves.proofs.Rising.{rise}
use Rattle.apex_waves.proofs.laws.times_rise.Goals as goal

pub returns : goal.returns
returns c = rise
