-- The first n of the events were made, and there was room for each.
use Rattle.std.proofs.Common.{◌≡◌, ◌+◌, ◌-◌, ◌≤◌, length, replicate}
use Rattle.apex_machine.specs.Machine.{run}
use Rattle.apex_dispatch.specs.Kernel.{kernel_in}
use Rattle.apex_console.proofs.events.run_repeated.Given as goal

abbrev pub invariant-loop-round : goal.invariant-loop-round
invariant-loop-round g l = record {
  table : l.kernel.table ≡ l.fn.kernel.table;
  values : l.kernel ≡ kernel_in l.fn.kernel.table l.kernel.machine l.kernel.store;
  rest : run l.fn.kernel.table l.kernel.machine (replicate (l.times - l.round) l.event)
      ≡ run l.fn.kernel.table l.fn.kernel.machine (replicate l.times l.event);
  count : length l.kernel.machine.history ≡ length l.fn.kernel.machine.history + l.round;
  within : length l.kernel.machine.history ≤ l.fn.kernel.table.limit;
}
