use Rattle.std.proofs.Common.{◌≡◌, ◌++◌, drop, map}
use Rattle.apex_warnings.specs.Calls.{calls_of, scripts}
use Rattle.apex_machine.specs.table.Table.{ProcessConfig}
use Rattle.apex_warnings.proofs.steps.scripts_of.Given as goal

-- the scripts so far, and those that are left, make the whole
abbrev pub invariant-loop-place : goal.invariant-loop-place
invariant-loop-place l =
    l.scripts.items ++ map (λ (e : ProcessConfig). calls_of e.script) (drop l.place l.table.processes)
    ≡ scripts l.table
