-- The tracks of the processes so far.
use Rattle.std.proofs.Common.{◌≡◌, length}
use Rattle.arrayvec.specs.ArrayVec.{array_vec_len}
use Rattle.apex_moments.specs.Moments.{running_in}
use Rattle.apex_moments.specs.Places.{of_places}
use Rattle.apex_traces.specs.Tracks.{track_of}
use Rattle.apex_traces.proofs.tracks.tracks_of.Given as goal

abbrev pub invariant-loop-place : goal.invariant-loop-place
invariant-loop-place g l =
    let roster = g.S.Store.roster l.store in
    record {
      end : l.place-end ≡ length roster.records;
      many : array_vec_len l.tracks ≡ l.place;
      running : l.running.items ≡ running_in roster;
      items : l.tracks.items ≡ of_places (track_of roster) l.place;
    }
