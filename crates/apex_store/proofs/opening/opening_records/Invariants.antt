use Rattle.std.proofs.Common.{◌≡◌, ◌≤◌, take, length, vec_len, vec_capacity}
use Rattle.apex_machine.specs.processes.Roster.{opening_record}
use Rattle.apex_types.specs.Places.{map_places}
use Rattle.apex_store.proofs.opening.opening_records.Given as goal

abbrev pub invariant-loop-place : goal.invariant-loop-place
invariant-loop-place l = record {
  records : l.records.items ≡ map_places opening_record 0 (take l.place l.table.processes);
  many : vec_len l.records ≡ l.place;
  room : length l.table.processes ≤ vec_capacity l.records;
}
