use Rattle.std.proofs.Common.{◌≡◌, false}
use Rattle.apex_warnings.specs.Cores.{any_below, process_stays}
use Rattle.apex_warnings.proofs.found.some_process_stays.Given as goal

-- no process so far stays
abbrev pub invariant-loop-place : goal.invariant-loop-place
invariant-loop-place l = any_below (process_stays l.steps) l.place ≡ false
