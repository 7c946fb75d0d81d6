-- No write failed so far, the bytes that are gone from `rest` were appended, and writes of `rest`
-- from here on are writes of the text from its start.
use Rattle.std.proofs.Common.{◌≡◌, ℕ, List, ◌++◌, length, Result}
use Rattle.std.specs.Io.KnownBytes.{Appends}
use Rattle.std.specs.declared.io.Error.{Error}
use Rattle.apex_history.specs.Counted.{inner_of, failures_of, reads_left_of, Writes}
use Rattle.apex_history.proofs.counting.CountedWrite.write_all.Given as goal

abbrev pub invariant-loop-rest : goal.invariant-loop-rest
invariant-loop-rest g l = record {
  bytes : (done : List ℕ) × (l.fn.buf ≡ done ++ l.rest) × Appends (g.W.Sink.contents (inner_of l.fn.self)) (g.W.Sink.contents (inner_of l.self)) done;
  failures : failures_of l.self ≡ failures_of l.fn.self;
  given : (result : Result (Unit {0}) Error) (after : g.row.W.Denot) → Writes g.W.Sink.accepts (inner_of l.self) l.rest result after
      → Writes g.W.Sink.accepts (inner_of l.fn.self) l.fn.buf result after;
  reads : reads_left_of l.self ≡ reads_left_of l.fn.self;
}

abbrev pub decreases-loop-rest : goal.decreases-loop-rest
decreases-loop-rest g l = length l.rest
