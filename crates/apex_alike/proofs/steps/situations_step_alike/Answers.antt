use Rattle.apex_alike.proofs.Situated.{situations_step}
use Rattle.apex_alike.proofs.steps.situations_step_alike.Goals as goal

pub returns : goal.returns
returns c = situations_step
