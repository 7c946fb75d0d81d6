use Rattle.apex_alike.proofs.Turns.{alike_steps}
use Rattle.apex_alike.proofs.steps.alike_steps_stay_alike.Goals as goal

pub returns : goal.returns
returns c = alike_steps
