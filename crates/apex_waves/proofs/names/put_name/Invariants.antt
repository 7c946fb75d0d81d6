-- The bytes so far follow the text.
use Rattle.std.proofs.Common.{◌≡◌, ◌+◌, ◌*◌, ◌≤◌, ◌++◌, length, take}
use Rattle.apex_waves.specs.Names.{dump_name}
use Rattle.apex_waves.proofs.names.put_name.Given as goal

abbrev pub invariant-loop-byte : goal.invariant-loop-byte
invariant-loop-byte l = record {
  text : l.sheet ≡ l.fn.sheet ++ dump_name (take l.byte-index l.name);
  short : length l.sheet ≤ length l.fn.sheet + 3 * l.byte-index;
}
