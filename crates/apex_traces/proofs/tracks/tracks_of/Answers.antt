-- The next track is put behind those so far, and all of them show the moment.
use Rattle.std.proofs.Common.{◌≡◌, ◌∙◌, ◌+◌, ap, arith, length}
use Rattle.apex_traces.specs.Tracks.{track_of}
use Rattle.apex_moments.proofs.Places.{place_next}
use Rattle.apex_traces.proofs.TracksShown.{tracks_same}
use Rattle.apex_traces.proofs.tracks.tracks_of.Goals as goal

pub loop-place-preserved : goal.loop-place-preserved
loop-place-preserved g c =
    let roster = g.S.Store.roster c.args.store.now in
    record {
      end = c.loop-place.invariant.end;
      many = c.push.ensures.len ∙ ap (λ n. n + 1) c.loop-place.invariant.many;
      running = c.loop-place.invariant.running;
      items = place_next (track_of roster) c.loop-place.place _ _ _ c.loop-place.invariant.items c.push.ensures.items
          (rw c.at-process.ensures at c.track_by.ensures);
    }

pub returns : goal.returns
returns g c =
    let roster = g.S.Store.roster c.args.store.now in
    let at = c.loop-place.invariant in
    let all : c.loop-place.place ≡ length roster.records =
    omega (arith, at.end, c.loop-place-test.false, c.loop-place.auto.place-end) in
    tracks_same roster c.loop-place.tracks.items _ c.args.counts (rw all at at.items) at.running
