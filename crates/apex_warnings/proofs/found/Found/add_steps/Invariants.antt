use Rattle.std.proofs.Common.{◌≡◌, ◌++◌}
use Rattle.apex_warnings.specs.Warnings.{each_below, init_warned, script_warned}
use Rattle.apex_warnings.proofs.found.Found.add_steps.Given as goal

-- the warnings of the places so far are found
abbrev pub invariant-loop-place : goal.invariant-loop-place
invariant-loop-place l =
    l.self ≡ (l.fn.self ++ init_warned l.steps l.warning)
    ++ each_below (script_warned l.steps l.warning) l.place
