use Rattle.std.proofs.Common.{◌≡◌, ◌++◌, drop}
use Rattle.apex_recall.specs.Restored.{processes_in}
use Rattle.apex_recall.proofs.restored.restore_processes.Given as goal

-- those so far are as their words say
abbrev pub invariant-loop-place : goal.invariant-loop-place
invariant-loop-place l =
    l.processes ≡ processes_in l.place l.words l.from ++ drop l.place l.fn.processes
