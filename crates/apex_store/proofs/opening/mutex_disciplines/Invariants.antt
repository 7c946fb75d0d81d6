use Rattle.std.proofs.Common.{◌≡◌, length, map, drop, ◌++◌}
use Rattle.apex_machine.specs.table.Table.{MutexConfig}
use Rattle.apex_store.proofs.opening.mutex_disciplines.Given as goal

abbrev pub invariant-loop-place : goal.invariant-loop-place
invariant-loop-place l = record {
  many : l.count ≡ length l.table.mutexes;
  rest : l.disciplines.items ++ map (λ (m : MutexConfig). m.discipline) (drop l.place l.table.mutexes) ≡ map (λ (m : MutexConfig). m.discipline) l.table.mutexes;
}
