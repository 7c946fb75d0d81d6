use Rattle.std.proofs.Common.{◌≡◌, ◌++◌}
use Rattle.apex_warnings.specs.Cores.{core_is_unused}
use Rattle.apex_warnings.specs.Warnings.{each_below, warned}
use Rattle.apex_warnings.specs.declared.warnings.Warning.TheVariants.{UnusedCore}
use Rattle.apex_warnings.proofs.found.Found.add_cores.Given as goal

-- the warnings of the places so far are found
abbrev pub invariant-loop-number : goal.invariant-loop-number
invariant-loop-number l =
    l.self ≡ l.fn.self
    ++ each_below (λ core. warned (core_is_unused l.steps core) (UnusedCore core)) l.number
