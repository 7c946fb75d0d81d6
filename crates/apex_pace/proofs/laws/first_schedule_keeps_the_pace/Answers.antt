use Rattle.apex_pace.specs.Pace.{paced_opening}
use Rattle.apex_pace.proofs.First.{rounds_keep}
use Rattle.apex_pace.proofs.laws.first_schedule_keeps_the_pace.Goals as goal

pub returns : goal.returns
returns c pace table until = rounds_keep pace table until table.limit (paced_opening table)
