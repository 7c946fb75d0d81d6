use Rattle.std.proofs.Common.{◌≡◌, ◌++◌, drop}
use Rattle.apex_types.specs.declared.calls.Origin.TheVariants.{Script}
use Rattle.apex_warnings.specs.StepWarnings.{step_warned}
use Rattle.apex_warnings.specs.Warnings.{each_call, script_warned, warned}
use Rattle.apex_warnings.specs.declared.warnings.Warning.TheVariants.{Step}
use Rattle.apex_warnings.proofs.found.Found.add_script.Given as goal

-- the warnings of the places so far are found
abbrev pub invariant-loop-place : goal.invariant-loop-place
invariant-loop-place l =
    l.self ++ each_call (λ k call. warned (step_warned l.warning l.steps l.process k call)
    (Step l.warning (Script l.process k))) l.place (drop l.place l.calls)
    ≡ l.fn.self ++ script_warned l.steps l.warning l.process
