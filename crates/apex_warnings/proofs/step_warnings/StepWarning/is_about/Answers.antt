use Rattle.std.proofs.Common.{arith}
use Rattle.std.proofs.lemmas.Grind.{common_steps}
use Rattle.apex_warnings.proofs.step_warnings.StepWarning.is_about.Goals as goal

pub returns-in-NotReleased : goal.returns-in-NotReleased
returns-in-NotReleased c = grind (arith, common_steps)
