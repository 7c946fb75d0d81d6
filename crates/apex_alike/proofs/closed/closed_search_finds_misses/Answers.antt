use Rattle.apex_alike.proofs.Claims.{no_run_misses}
use Rattle.apex_alike.proofs.closed.closed_search_finds_misses.Goals as goal

pub returns : goal.returns
returns c = no_run_misses
