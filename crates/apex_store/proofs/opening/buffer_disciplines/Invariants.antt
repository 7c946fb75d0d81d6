use Rattle.std.proofs.Common.{◌≡◌, length, map, drop, ◌++◌}
use Rattle.apex_machine.specs.table.Table.{BufferConfig}
use Rattle.apex_store.proofs.opening.buffer_disciplines.Given as goal

abbrev pub invariant-loop-place : goal.invariant-loop-place
invariant-loop-place l = record {
  many : l.count ≡ length l.table.buffers;
  rest : l.disciplines.items ++ map (λ (b : BufferConfig). b.discipline) (drop l.place l.table.buffers) ≡ map (λ (b : BufferConfig). b.discipline) l.table.buffers;
}
