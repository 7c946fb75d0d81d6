use Rattle.std.proofs.Common.{◌-◌}
use Rattle.apex_explore.proofs.Trails.{IsReadTo}
use Rattle.apex_explore.proofs.paths.path_to.Given as goal

abbrev pub invariant-loop : goal.invariant-loop
invariant-loop l = IsReadTo l.origins l.depth l.place (l.depth - l.counter) l.at l.path.items
