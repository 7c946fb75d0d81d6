use Rattle.std.proofs.Common.{◌≡◌, length, map, drop, ◌++◌}
use Rattle.apex_machine.specs.table.Table.{SemaphoreConfig}
use Rattle.apex_store.proofs.opening.semaphore_disciplines.Given as goal

abbrev pub invariant-loop-place : goal.invariant-loop-place
invariant-loop-place l = record {
  many : l.count ≡ length l.table.semaphores;
  rest : l.disciplines.items ++ map (λ (s : SemaphoreConfig). s.discipline) (drop l.place l.table.semaphores) ≡ map (λ (s : SemaphoreConfig). s.discipline) l.table.semaphores;
}
