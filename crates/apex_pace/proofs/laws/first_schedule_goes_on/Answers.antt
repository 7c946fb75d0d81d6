use Rattle.apex_pace.specs.Pace.{paced_opening}
use Rattle.apex_pace.proofs.Over.{rounds_go_on}
use Rattle.apex_pace.proofs.laws.first_schedule_goes_on.Goals as goal

pub returns : goal.returns
returns c pace table until most = rounds_go_on pace most table until table.limit (paced_opening table)
