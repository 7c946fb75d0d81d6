-- The line and the column are those behind the bytes so far.
use Rattle.std.proofs.Common.{◌≡◌, ◌+◌, ◌≤◌, take}
use Rattle.apex_schedules.specs.Groups.{column_behind, line_behind}
use Rattle.apex_schedules.proofs.groups.Place.line_and_column.Given as goal

abbrev pub invariant-loop-byte : goal.invariant-loop-byte
invariant-loop-byte l = record {
  line : l.line ≡ line_behind (take l.byte-index l.byte-items);
  column : l.column ≡ column_behind (take l.byte-index l.byte-items);
  below : l.line ≤ l.byte-index + 1;
  short : l.column ≤ l.byte-index + 1;
}
