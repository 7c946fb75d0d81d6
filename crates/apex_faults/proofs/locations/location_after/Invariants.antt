use Rattle.std.proofs.Common.{◌≡◌, ◌≤◌, ◌+◌, drop, fold}
use Rattle.apex_faults.specs.Locations.{after_byte, location_after}
use Rattle.apex_faults.proofs.locations.location_after.Given as goal

-- the bytes that are left lead from here to the location behind them all
abbrev pub invariant-each : goal.invariant-each
invariant-each l = record {
  rest : fold after_byte l.here (drop l.byte-index l.bytes) ≡ location_after l.bytes;
  line : l.here.line ≤ l.byte-index + 1;
  column : l.here.column ≤ l.byte-index + 1;
}
