use Rattle.apex_alike.proofs.Choices.{choose_alike}
use Rattle.apex_alike.proofs.steps.alike_choose_alike.Goals as goal

pub returns : goal.returns
returns c = choose_alike
