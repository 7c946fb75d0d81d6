use Rattle.apex_alike.proofs.Claims.{no_run_is_at_standstill}
use Rattle.apex_alike.proofs.closed.closed_search_finds_standstills.Goals as goal

pub returns : goal.returns
returns c = no_run_is_at_standstill
