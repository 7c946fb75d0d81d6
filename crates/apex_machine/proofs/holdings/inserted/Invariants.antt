use Rattle.std.proofs.Common.{◌≡◌, ◌+◌, ◌++◌, true, false, drop, length}
use Rattle.apex_machine.specs.processes.Held.{inserted}
use Rattle.apex_machine.proofs.holdings.inserted.Given as goal

-- the copied holdings, and those that are left, make the whole; one more was copied if the holding
-- no longer waits
abbrev pub invariant-loop-other : goal.invariant-loop-other
invariant-loop-other l = record {
  before : l.waits ≡ true → l.held ++ inserted l.fn.holding (drop l.other-index l.others) ≡ inserted l.fn.holding l.others;
  behind : l.waits ≡ false → l.held ++ drop l.other-index l.others ≡ inserted l.fn.holding l.others;
  many : l.waits ≡ true → length l.held ≡ l.other-index;
  more : l.waits ≡ false → length l.held ≡ l.other-index + 1;
}
