-- The names so far follow the text.
use Rattle.std.proofs.Common.{◌≡◌, ◌++◌, length}
use Rattle.apex_machine.specs.text.Listing.{texts_of}
use Rattle.apex_traces.specs.Trace as trace
use Rattle.apex_traces.proofs.trace.put_process_names.Given as goal

abbrev pub invariant-loop-place : goal.invariant-loop-place
invariant-loop-place l = record {
  many : l.place-end ≡ length l.table.processes;
  text : l.text.items ≡ l.fn.text.items ++ texts_of (trace.process_name_text l.table) l.place;
}
