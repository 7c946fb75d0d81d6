use Rattle.apex_alike.proofs.OneForm.{runs_come_to_all}
use Rattle.apex_alike.proofs.closed.closed_runs_come_to_all.Goals as goal

pub returns : goal.returns
returns c = runs_come_to_all
