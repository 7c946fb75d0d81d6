use Rattle.std.proofs.Common.{◌≡◌, ◌++◌}
use Rattle.apex_warnings.specs.ProcessWarnings.{process_warned}
use Rattle.apex_warnings.specs.Warnings.{each_below, warned}
use Rattle.apex_warnings.specs.declared.warnings.Warning.TheVariants.{Process}
use Rattle.apex_warnings.proofs.found.Found.add_processes.Given as goal

-- the warnings of the places so far are found
abbrev pub invariant-loop-place : goal.invariant-loop-place
invariant-loop-place l =
    l.self ≡ l.fn.self
    ++ each_below (λ p. warned (process_warned l.warning l.steps p) (Process l.warning p)) l.place
