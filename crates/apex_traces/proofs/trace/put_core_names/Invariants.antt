-- The names so far follow the text.
use Rattle.std.proofs.Common.{◌≡◌, ◌++◌}
use Rattle.apex_machine.specs.text.Listing.{texts_of}
use Rattle.apex_traces.specs.Trace as trace
use Rattle.apex_traces.proofs.trace.put_core_names.Given as goal

abbrev pub invariant-loop-core : goal.invariant-loop-core
invariant-loop-core l = record {
  many : l.core-end ≡ l.table.cores;
  text : l.text.items ≡ l.fn.text.items ++ texts_of (trace.core_name_text) l.core;
}
