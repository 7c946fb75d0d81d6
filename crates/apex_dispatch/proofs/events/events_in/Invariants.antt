-- The events of the entries so far.
use Rattle.std.proofs.Common.{◌≡◌, ◌++◌, map}
use Rattle.apex_machine.specs.Machine.{event_of}
use Rattle.apex_dispatch.proofs.events.events_in.Given as goal

abbrev pub invariant-loop-entry : goal.invariant-loop-entry
invariant-loop-entry g l = record {
  split : l.kernel.machine.history ≡ l.yielded ++ l.entry-iterator;
  events : l.events.items ≡ map event_of l.yielded;
}
