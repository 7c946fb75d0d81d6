-- The tracks and the changes so far.
use Rattle.std.proofs.Common.{◌≡◌, ◌++◌, drop, length, ◌+◌, ◌*◌, ◌≤◌}
use Rattle.arrayvec.specs.ArrayVec.{array_vec_len}
use Rattle.apex_traces.specs.declared.pieces.TheConstants.{TRACK}
use Rattle.std.specs.Prelude.{map}
use Rattle.apex_machine.specs.text.Listing.{texts_of}
use Rattle.apex_moments.specs.Moments.{running_in, with_cells}
use Rattle.apex_moments.specs.Places.{of_places}
use Rattle.apex_traces.specs.Trace as trace
use Rattle.apex_traces.specs.Tracks.{bare_cells, cell_on, track_of}
use Rattle.apex_traces.proofs.trace.add_processes.Given as goal

abbrev pub invariant-loop-place : goal.invariant-loop-place
invariant-loop-place g l =
    let roster = g.S.Store.roster l.store in
    record {
      stamp : l.stamp ≡ l.time;
      end : l.place-end ≡ length l.fn.tracks;
      running : l.running ≡ running_in roster;
      records : l.records ≡ roster.records;
      tracks : l.tracks ≡ of_places (track_of roster) l.place ++ drop l.place l.fn.tracks;
      text : l.piece.items ≡ l.fn.piece.items ++ texts_of (trace.process_at l.table l.time (with_cells (map cell_on l.fn.tracks)) (with_cells (bare_cells roster))) l.place;
      short : array_vec_len l.piece ≤ array_vec_len l.fn.piece + TRACK * l.place;
    }
