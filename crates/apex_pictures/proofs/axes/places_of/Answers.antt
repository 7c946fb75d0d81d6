-- The next place is put behind those so far; no entry is later than the last one.
use Rattle.std.proofs.Common.{◌≡◌, ◌∙◌, ◌-◌, ap, arith, length}
use Rattle.apex_moments.proofs.Places.{place_next}
use Rattle.apex_pictures.specs.Axes.{all_ticks, place_of, ticks_before}
use Rattle.apex_pictures.specs.Excerpts.{never}
use Rattle.apex_pictures.proofs.axes.places_of.Goals as goal

pub place_at-requires-clause-within : goal.place_at-requires-clause-within
place_at-requires-clause-within c =
    let entries = c.args.entries.now in
    let all : c.ticks_before-all.result ≡ all_ticks entries =
    c.ticks_before-all.ensures ∙ ap (ticks_before entries) c.saturating_sub.ensures in
    let rises = c.requires.rises c.loop-before.before (length entries - 1) never (omega (arith, c.loop-before.invariant.end))
    (omega (arith, c.loop-before.invariant.end)) in
    omega (arith, all, c.ticks_before-ticks.ensures, rises)

pub place_at-requires-clause-range : goal.place_at-requires-clause-range
place_at-requires-clause-range c =
    let entries = c.args.entries.now in
    let all : c.ticks_before-all.result ≡ all_ticks entries =
    c.ticks_before-all.ensures ∙ ap (ticks_before entries) c.saturating_sub.ensures in
    omega (arith, all, c.requires.range)

pub loop-before-preserved : goal.loop-before-preserved
loop-before-preserved c =
    let entries = c.args.entries.now in
    let all : c.ticks_before-all.result ≡ all_ticks entries =
    c.ticks_before-all.ensures ∙ ap (ticks_before entries) c.saturating_sub.ensures in
    record {
      end = c.loop-before.invariant.end;
      items = place_next (place_of c.args.axis entries) c.loop-before.before _ _ _ c.loop-before.invariant.items
          c.in_ok-push.ensures.items (rw (all, c.ticks_before-ticks.ensures) at c.place_at.ensures.value);
    }
