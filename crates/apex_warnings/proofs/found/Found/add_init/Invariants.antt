use Rattle.std.proofs.Common.{◌≡◌, ◌++◌, drop}
use Rattle.apex_types.specs.declared.calls.Origin.TheVariants.{Init}
use Rattle.apex_warnings.specs.StepWarnings.{init_step_warned}
use Rattle.apex_warnings.specs.Warnings.{each_call, init_warned, warned}
use Rattle.apex_warnings.specs.declared.warnings.Warning.TheVariants.{Step}
use Rattle.apex_warnings.proofs.found.Found.add_init.Given as goal

-- the warnings of the places so far are found
abbrev pub invariant-loop-place : goal.invariant-loop-place
invariant-loop-place l =
    l.self ++ each_call (λ k call. warned (init_step_warned l.warning l.steps call)
    (Step l.warning (Init k))) l.place (drop l.place l.calls)
    ≡ l.fn.self ++ init_warned l.steps l.warning
