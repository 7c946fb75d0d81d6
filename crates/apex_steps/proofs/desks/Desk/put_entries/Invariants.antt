-- No write failed so far. Of the text of the entries before the place, the writer has a prefix, and the
-- rest is gathered.
use Rattle.std.proofs.Common.{◌≡◌, ◌+◌, ◌-◌, ◌≤◌, drop, flat_map, take}
use Rattle.arrayvec.specs.ArrayVec.{array_vec_len}
use Rattle.apex_objects.specs.declared.lines.TheConstants.{MOST_OBJECT, OBJECTS_ROOM}
use Rattle.apex_history.specs.Counted.{inner_of, failures_of}
use Rattle.apex_history.specs.Page.{Passes}
use Rattle.apex_steps.specs.Texts.{entry_in}
use Rattle.apex_steps.proofs.desks.Desk.put_entries.Given as goal

abbrev pub invariant-loop-place : goal.invariant-loop-place
invariant-loop-place g l = record {
  text : Passes (g.W.Sink.contents (inner_of l.fn.writer)) (g.W.Sink.contents (inner_of l.writer))
      (flat_map (entry_in l.form l.kernel.table) (take (l.place - l.from) (drop l.from l.kernel.machine.history))) l.self.lines.items;
  room : array_vec_len l.self.lines + MOST_OBJECT ≤ OBJECTS_ROOM;
  failures : failures_of l.writer ≡ failures_of l.fn.writer;
}
