-- The events so far were made; the writer has a prefix of the dump so far, and the sheet the rest.
use Rattle.std.proofs.Common.{◌≡◌, drop}
use Rattle.apex_machine.specs.Machine.{opening, run}
use Rattle.apex_dispatch.specs.Kernel.{kernel_in}
use Rattle.apex_history.specs.Counted.{inner_of, failures_of}
use Rattle.apex_history.specs.Page.{Passes}
use Rattle.apex_waves.specs.Printing.{IsAt, IsFollowed}
use Rattle.apex_waves.specs.Signals.{signals_of}
use Rattle.apex_waves.proofs.Printed.{so_far}
use Rattle.apex_waves.proofs.printing.print_waves.Given as goal

abbrev pub invariant-loop-event : goal.invariant-loop-event
invariant-loop-event g l = record {
  table : l.kernel.table ≡ l.fn.kernel.table;
  values : l.kernel ≡ kernel_in l.fn.kernel.table l.kernel.machine l.kernel.store;
  rest : run l.fn.kernel.table l.kernel.machine (drop l.event-index l.events)
      ≡ run l.fn.kernel.table (opening l.fn.kernel.table) l.events;
  followed : IsFollowed l.fn.kernel.table l.kernel.machine;
  course : IsAt l.fn.kernel.table l.kernel.machine l.course;
  signals : l.signals.items ≡ signals_of l.fn.kernel.table;
  text : Passes (g.W.Sink.contents (inner_of l.fn.writer)) (g.W.Sink.contents (inner_of l.writer))
      (so_far l.fn.kernel.table l.kernel.machine) l.sheet;
  failures : failures_of l.writer ≡ failures_of l.fn.writer;
}
