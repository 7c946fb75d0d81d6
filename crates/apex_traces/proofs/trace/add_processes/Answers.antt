-- The next track has its state, and the next text follows those before it.
use Rattle.std.proofs.Common.{◌≡◌, ◌∙◌, ◌<◌, arith, length, sym}
use Rattle.std.specs.Prelude.{map, slice_index_or}
use Rattle.apex_traces.specs.Beings.{being_in}
use Rattle.apex_traces.specs.declared.beings.Being.TheVariants.{Dormant}
use Rattle.apex_moments.specs.Moments.{no_cell, with_cells}
use Rattle.apex_traces.specs.Trace as trace
use Rattle.apex_traces.specs.Tracks.{bare_cells, cell_on, track_of}
use Rattle.apex_moments.proofs.Places.{changed_at, kept_at, same_at, still_at, text_next}
use Rattle.apex_traces.proofs.TracksShown.{process_still, track_now, track_seen}
use Rattle.apex_traces.proofs.trace.add_processes.Goals as goal
use Rattle.apex_traces.proofs.trace.add_processes.Goals.{then-not-is_still, else-not-is_still}

pub loop-place-preserved : goal.loop-place-preserved
loop-place-preserved g c =
    let roster = g.S.Store.roster c.args.store.now in
    let table = c.args.table.now in
    let at = c.loop-place.invariant in
    let place = c.loop-place.place in
    let old = c.args.tracks.now in
    let kept : place < length old = omega (arith, at.end, c.loop-place-test.true) in
    let within : place < length roster.records = omega (arith, kept, c.requires.many) in
    let before = c.index-tracks-place.result in
    let was : before ≡ being_in (slice_index_or (map cell_on old) place no_cell) =
    c.index-tracks-place.is ∙ kept_at (track_of roster) place old _ before kept at.tracks
    ∙ same_at old place before Dormant kept ∙ track_seen old place in
    let changes = trace.process_at table c.args.time (with_cells (map cell_on old)) (with_cells (bare_cells roster)) in
    elim c.if-not-is_still.branch [
      | then-not-is_still w ↦
          let track : w.track_by-track.result ≡ track_of roster place = rw c.at-process.ensures at w.track_by-track.ensures in
          let is : w.track_by-track.result ≡ being_in (slice_index_or (bare_cells roster) place no_cell) =
          track ∙ track_now roster place within in
          record {
            stamp = at.stamp;
            end = at.end;
            running = at.running;
            records = at.records;
            tracks = changed_at (track_of roster) place old _ _ _ kept at.tracks w.tracks-is track;
            text = text_next changes place _ _ _ at.text
                (rw w.piece-is (rw (c.at-process.ensures, was, is) at w.add_process.ensures.text));
            short = rw w.piece-is (omega (arith, at.short, w.add_process.ensures.short));
          }
      | else-not-is_still w ↦
          let still : track_of roster place ≡ before = rw c.at-process.ensures at c.is_still.ensures w.if-not-is_still.false in
          let is : before ≡ being_in (slice_index_or (bare_cells roster) place no_cell) =
          sym still ∙ track_now roster place within in
          record {
            stamp = at.stamp;
            end = at.end;
            running = at.running;
            records = at.records;
            tracks = rw w.tracks-is (still_at (track_of roster) place old _ before kept at.tracks (sym c.index-tracks-place.is ∙ sym still));
            text = text_next changes place _ _ _ at.text
                (rw w.piece-is (process_still table c.args.time place (being_in (slice_index_or (map cell_on old) place no_cell))
                (being_in (slice_index_or (bare_cells roster) place no_cell)) c.loop-place.piece.items (sym was ∙ is)));
            short = rw w.piece-is (omega (arith, at.short));
          }
    ]
