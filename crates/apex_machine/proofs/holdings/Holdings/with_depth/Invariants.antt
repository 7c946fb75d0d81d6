use Rattle.std.proofs.Common.{◌≡◌, take}
use Rattle.apex_machine.specs.processes.Held.{with_depth}
use Rattle.apex_machine.proofs.holdings.Holdings.with_depth.Given as goal

-- those so far
abbrev pub invariant-loop-holding : goal.invariant-loop-holding
invariant-loop-holding l = l.held ≡ with_depth l.mutex l.depth (take l.holding-index l.holding-items)
