use Rattle.apex_laws.proofs.Runs.{run-append}
use Rattle.apex_laws.proofs.runs_compose.Goals as goal

pub returns : goal.returns
returns c = run-append
