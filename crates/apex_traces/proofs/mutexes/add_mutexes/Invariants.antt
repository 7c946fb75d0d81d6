-- The owners and the changes so far.
use Rattle.std.proofs.Common.{◌≡◌, ◌++◌, drop, length, ◌+◌, ◌*◌, ◌≤◌}
use Rattle.arrayvec.specs.ArrayVec.{array_vec_len}
use Rattle.apex_traces.specs.declared.pieces.TheConstants.{TRACK}
use Rattle.apex_machine.specs.processes.Owners.{owner}
use Rattle.apex_machine.specs.text.Listing.{texts_of}
use Rattle.apex_moments.specs.Counts.{owners_in}
use Rattle.apex_moments.specs.Places.{of_places}
use Rattle.apex_traces.specs.Trace as trace
use Rattle.apex_traces.proofs.mutexes.add_mutexes.Given as goal

abbrev pub invariant-loop-place : goal.invariant-loop-place
invariant-loop-place g l =
    let roster = g.S.Store.roster l.store in
    record {
      stamp : l.stamp ≡ l.time;
      end : l.place-end ≡ length l.table.mutexes;
      owners : l.owners ≡ of_places (owner roster) l.place ++ drop l.place l.fn.owners;
      text : l.piece.items ≡ l.fn.piece.items ++ texts_of (trace.mutex_at l.table l.time l.fn.owners (owners_in l.table roster)) l.place;
      short : array_vec_len l.piece ≤ array_vec_len l.fn.piece + TRACK * l.place;
    }
