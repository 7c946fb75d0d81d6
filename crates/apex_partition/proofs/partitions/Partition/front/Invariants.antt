use Rattle.std.proofs.Common.{◌≡◌, All, Option, ℕ, IfSome, map}
use Rattle.std.specs.List.{range_with_len}
use Rattle.apex_machine.specs.processes.Running.{chosen}
use Rattle.apex_board.specs.Fronts.{IsSmallId}
use Rattle.apex_partition.proofs.partitions.Partition.front.Given as goal

abbrev pub invariant-loop-core : goal.invariant-loop-core
invariant-loop-core l = record {
  chosen : l.chosen.items ≡ map (chosen l.fn.self.machine.roster) (range_with_len 0 l.core);
  small : All (λ (running : Option ℕ). IfSome running IsSmallId) l.chosen.items;
}
