use Rattle.std.proofs.Common.{◌≡◌, ◌≤◌, length, take}
use Rattle.apex_machine.specs.processes.Held.{without}
use Rattle.apex_machine.proofs.holdings.Holdings.without.Given as goal

-- those so far, but for the mutex
abbrev pub invariant-loop-holding : goal.invariant-loop-holding
invariant-loop-holding l = record {
  kept : l.held ≡ without l.mutex (take l.holding-index l.holding-items);
  fewer : length l.held ≤ l.holding-index;
}
