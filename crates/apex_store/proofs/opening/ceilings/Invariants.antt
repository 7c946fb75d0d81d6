use Rattle.std.proofs.Common.{◌≡◌, length, map, drop, ◌++◌}
use Rattle.apex_machine.specs.table.Table.{MutexConfig}
use Rattle.apex_store.proofs.opening.ceilings.Given as goal

abbrev pub invariant-loop-place : goal.invariant-loop-place
invariant-loop-place l = record {
  many : l.count ≡ length l.table.mutexes;
  rest : l.ceilings.items ++ map (λ (m : MutexConfig). m.ceiling) (drop l.place l.table.mutexes) ≡ map (λ (m : MutexConfig). m.ceiling) l.table.mutexes;
}
