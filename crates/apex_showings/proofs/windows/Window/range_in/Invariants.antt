-- The range of the entries so far.
use Rattle.std.proofs.Common.{◌≡◌, ◌++◌}
use Rattle.apex_showings.specs.Windows.{range_in}
use Rattle.apex_showings.proofs.windows.Window.range_in.Given as goal

abbrev pub invariant-loop-entry : goal.invariant-loop-entry
invariant-loop-entry g l = record {
  split : l.kernel.machine.history ≡ l.yielded ++ l.entry-iterator;
  range : l.range ≡ range_in l.self l.yielded;
}
