-- The words so far were taken, with a byte at least for each, and the rest is the text behind them.
use Rattle.std.proofs.Common.{◌≡◌, ◌+◌, ◌-◌, ◌≤◌, drop, length}
use Rattle.apex_schedules.specs.Readings.{IsReading}
use Rattle.apex_schedules.proofs.Taken.{HasTaken}
use Rattle.apex_schedules.proofs.groups.read_grouped.Given as goal

abbrev pub invariant-loop-rest : goal.invariant-loop-rest
invariant-loop-rest l = record {
  taken : HasTaken l.text l.reading.items.items l.reading.starts.items l.item l.rest;
  reading : IsReading l.reading.items.items l.reading.starts.items;
  left : length l.rest ≤ length l.text;
  rest : l.rest ≡ drop (length l.text - length l.rest) l.text;
  some : 1 ≤ l.item;
  few : l.item + length l.rest ≤ length l.text + 1;
}

abbrev pub decreases-loop-rest : goal.decreases-loop-rest
decreases-loop-rest l = length l.rest
