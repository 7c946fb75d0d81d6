use Rattle.std.proofs.Common.{◌≡◌, ◌++◌, drop}
use Rattle.apex_warnings.specs.Calls.{calls_of}
use Rattle.apex_warnings.proofs.steps.Script.of.Given as goal

-- the calls so far, and those that are left, make the whole
abbrev pub invariant-loop-place : goal.invariant-loop-place
invariant-loop-place l =
    l.calls.items ++ calls_of (drop l.place l.process.script) ≡ calls_of l.process.script
