-- The columns of the entries so far.
use Rattle.std.proofs.Common.{◌≡◌, ◌++◌}
use Rattle.apex_pictures.specs.Excerpts.{columns_of}
use Rattle.apex_pictures.proofs.columns.columns_of.Given as goal

abbrev pub invariant-loop-entry : goal.invariant-loop-entry
invariant-loop-entry g l = record {
  split : l.kernel.machine.history ≡ l.yielded ++ l.entry-iterator;
  items : l.columns.items ≡ columns_of l.extent l.yielded;
}
