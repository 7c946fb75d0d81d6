-- The names so far follow the text.
use Rattle.std.proofs.Common.{◌≡◌, ◌++◌, length}
use Rattle.apex_machine.specs.text.Listing.{texts_of}
use Rattle.apex_traces.specs.Trace as trace
use Rattle.apex_traces.proofs.mutexes.put_mutex_names.Given as goal

abbrev pub invariant-loop-place : goal.invariant-loop-place
invariant-loop-place l = record {
  many : l.place-end ≡ length l.table.mutexes;
  text : l.text.items ≡ l.fn.text.items ++ texts_of (trace.mutex_name_text l.table) l.place;
}
