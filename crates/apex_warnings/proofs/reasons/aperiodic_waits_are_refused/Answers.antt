use Rattle.apex_warnings.proofs.Refusals.{aperiodic_waits}
use Rattle.apex_warnings.proofs.reasons.aperiodic_waits_are_refused.Goals as goal

pub returns : goal.returns
returns c = aperiodic_waits
