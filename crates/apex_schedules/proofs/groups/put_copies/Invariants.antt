use Rattle.std.proofs.Common.{◌≡◌, ◌++◌, drop}
use Rattle.std.specs.Prelude.{replicate}
use Rattle.std.specs.List.{flat_map}
use Rattle.apex_schedules.proofs.groups.put_copies.Given as goal

abbrev pub invariant-loop-copy : goal.invariant-loop-copy
invariant-loop-copy l =
    l.items.items ≡ l.fn.items.items ++ flat_map (λ copy. copy) (replicate l.copy (drop l.start l.fn.items.items))
