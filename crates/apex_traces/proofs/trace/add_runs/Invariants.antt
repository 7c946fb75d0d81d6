-- The processes of the cores so far, and the changes so far.
use Rattle.std.proofs.Common.{◌≡◌, ◌≤◌, ◌++◌, drop, ◌+◌, ◌*◌}
use Rattle.arrayvec.specs.ArrayVec.{array_vec_len}
use Rattle.apex_traces.specs.declared.pieces.TheConstants.{TRACK}
use Rattle.apex_machine.specs.processes.Running.{chosen}
use Rattle.apex_machine.specs.text.Listing.{texts_of}
use Rattle.apex_types.specs.declared.limits.TheConstants.{MOST_CORES}
use Rattle.apex_moments.specs.Moments.{running_in, with_running}
use Rattle.apex_moments.specs.Places.{of_places}
use Rattle.apex_traces.specs.Trace as trace
use Rattle.apex_traces.proofs.trace.add_runs.Given as goal

abbrev pub invariant-loop-place : goal.invariant-loop-place
invariant-loop-place g l =
    let roster = g.S.Store.roster l.store in
    record {
      stamp : l.stamp ≡ l.time;
      end : l.place-end ≡ l.table.cores;
      runs : l.running ≡ of_places (chosen roster) l.place ++ drop l.place l.fn.running;
      text : l.piece.items ≡ l.fn.piece.items ++ texts_of (trace.core_at l.table l.time (with_running l.fn.running) (with_running (running_in roster))) l.place;
      short : array_vec_len l.piece ≤ array_vec_len l.fn.piece + TRACK * l.place;
    }

abbrev pub invariant-loop-place-2 : goal.invariant-loop-place-2
invariant-loop-place-2 g l =
    let roster = g.S.Store.roster l.store in
    record {
      below : l.place ≤ MOST_CORES;
      runs : l.running ≡ of_places (chosen roster) l.place ++ drop l.place l.fn.running;
      text : l.piece.items ≡ l.fn.piece.items ++ texts_of (trace.core_at l.table l.time (with_running l.fn.running) (with_running (running_in roster))) l.table.cores;
      short : array_vec_len l.piece ≤ array_vec_len l.fn.piece + TRACK * MOST_CORES;
    }
