use Rattle.std.proofs.Common.{◌≡◌, drop}
use Rattle.apex_machine.specs.processes.Held.{holding_of}
use Rattle.apex_machine.proofs.holdings.Holdings.holding_of.Given as goal

-- the mutex is among those that are left
abbrev pub invariant-loop-holding : goal.invariant-loop-holding
invariant-loop-holding l = holding_of l.mutex (drop l.holding-index l.holding-items) ≡ holding_of l.mutex l.self
