use Rattle.apex_report.proofs.OwnerRuns.{owner_run}
use Rattle.apex_report.proofs.laws.owners_are_the_rosters.Goals as goal

pub returns : goal.returns
returns c table lawful events m = owner_run m table lawful events
