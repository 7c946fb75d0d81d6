use Rattle.std.proofs.Common.{rules}
use Rattle.apex_choices.proofs.paced.PacedSituation.event.Goals as goal

pub returns-in-Some-clause-value : goal.returns-in-Some-clause-value
returns-in-Some-clause-value c = search rules
