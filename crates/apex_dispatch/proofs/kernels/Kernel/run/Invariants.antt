use Rattle.std.proofs.Common.{◌≡◌, ◌≤◌, ◌+◌, length, drop, ◌++◌}
use Rattle.apex_machine.specs.Machine.{run, opening, events_of}
use Rattle.apex_dispatch.specs.Kernel.{kernel_in}
use Rattle.apex_dispatch.proofs.kernels.Kernel.run.Given as goal

abbrev pub invariant-loop-event : goal.invariant-loop-event
invariant-loop-event g l = record {
  table : l.self.table ≡ l.fn.self.table;
  values : l.self ≡ kernel_in l.fn.self.table l.self.machine l.self.store;
  rest : run l.fn.self.table l.self.machine (drop l.event-index l.events)
      ≡ run l.fn.self.table (opening l.fn.self.table) (events_of l.fn.self.machine.history ++ l.events);
  count : length l.self.machine.history ≡ length l.fn.self.machine.history + l.event-index;
  within : length l.self.machine.history ≤ l.fn.self.table.limit;
}
