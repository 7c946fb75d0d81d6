use Rattle.std.proofs.Common.{◌≡◌, ◌++◌}
use Rattle.apex_warnings.specs.Objects.{object_is_unused}
use Rattle.apex_warnings.specs.Warnings.{each_below, warned}
use Rattle.apex_warnings.specs.declared.warnings.Warning.TheVariants.{UnusedObject}
use Rattle.apex_warnings.proofs.found.Found.add_objects.Given as goal

-- the warnings of the places so far are found
abbrev pub invariant-loop-place : goal.invariant-loop-place
invariant-loop-place l =
    l.self ≡ l.fn.self
    ++ each_below (λ i. warned (object_is_unused l.steps l.group i) (UnusedObject l.group i)) l.place
