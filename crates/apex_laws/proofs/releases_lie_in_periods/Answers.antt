use Rattle.apex_laws.proofs.InPeriods.{lie_in_periods}
use Rattle.apex_laws.proofs.releases_lie_in_periods.Goals as goal

pub returns : goal.returns
returns c = lie_in_periods
