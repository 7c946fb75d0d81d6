-- The next text follows those before it.
use Rattle.std.proofs.Common.{◌≡◌, ◌∙◌, arith}
use Rattle.std.specs.Prelude.{map, slice_index_or}
use Rattle.apex_traces.specs.Beings.{being_in}
use Rattle.apex_moments.specs.Moments.{no_cell, none_shown, with_cells}
use Rattle.apex_traces.specs.Trace as trace
use Rattle.apex_traces.specs.Tracks.{cell_on}
use Rattle.apex_moments.proofs.Places.{text_next}
use Rattle.apex_traces.proofs.TracksShown.{track_seen}
use Rattle.apex_traces.proofs.trace.add_ends.Goals as goal

pub loop-place-preserved : goal.loop-place-preserved
loop-place-preserved c =
    let place = c.loop-place.place in
    let was : c.track_at-before.result ≡ being_in (slice_index_or (map cell_on c.args.last.now) place no_cell) =
    c.track_at-before.ensures ∙ track_seen c.args.last.now place in
    record {
      stamp = c.loop-place.invariant.stamp;
      many = c.loop-place.invariant.many;
      text = text_next (trace.process_at c.args.table.now c.args.time (with_cells (map cell_on c.args.last.now)) none_shown) place _ _ _ c.loop-place.invariant.text
          (rw (c.at-process.ensures, was) at c.add_process.ensures.text);
      short = omega (arith, c.loop-place.invariant.short, c.add_process.ensures.short);
    }
