-- The events of the first n items were made, and there was room for each.
use Rattle.std.proofs.Common.{◌≡◌, ◌+◌, ◌≤◌, length, drop}
use Rattle.apex_machine.specs.Machine.{run}
use Rattle.apex_dispatch.specs.Kernel.{kernel_in}
use Rattle.apex_schedules.specs.Schedule.{events_of_items}
use Rattle.apex_console.proofs.events.run_items.Given as goal

abbrev pub invariant-loop-item : goal.invariant-loop-item
invariant-loop-item g l = record {
  table : l.kernel.table ≡ l.fn.kernel.table;
  values : l.kernel ≡ kernel_in l.fn.kernel.table l.kernel.machine l.kernel.store;
  rest : run l.fn.kernel.table l.kernel.machine (events_of_items (drop l.item-index l.items))
      ≡ run l.fn.kernel.table l.fn.kernel.machine (events_of_items l.items);
  count : length l.kernel.machine.history + length (events_of_items (drop l.item-index l.items))
      ≡ length l.fn.kernel.machine.history + length (events_of_items l.items);
  within : length l.kernel.machine.history ≤ l.fn.kernel.table.limit;
}
