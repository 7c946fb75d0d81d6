-- If the loads so far have no byte that is escaped, neither the last one has.
use Rattle.std.proofs.Common.{◌≡◌, ◌*◌, ◌-◌, ◌/◌, length}
use Rattle.std.specs.Prelude.{IsTrue}
use Rattle.apex_traces.specs.Escapes.{ArePlain}
use Rattle.apex_traces.specs.declared.escapes.TheConstants.{LOAD}
use Rattle.apex_traces.proofs.escapes.are_many_plain.Given as goal

abbrev pub invariant-loop-round : goal.invariant-loop-round
invariant-loop-round l = record {
  end : l.round-end ≡ length l.bytes / LOAD;
  last : IsTrue l.plain → ArePlain l.bytes (length l.bytes - LOAD) LOAD;
  front : IsTrue l.plain → ArePlain l.bytes 0 (LOAD * l.round);
}
