-- The next text follows those before it.
use Rattle.std.proofs.Common.{◌≡◌, ◌∙◌, ◌<◌, ◌++◌, ap, arith, length, refl, sym}
use Rattle.std.proofs.lemmas.Option.{slice_get_read}
use Rattle.std.specs.Prelude.{Option, Some, slice_get}
use Rattle.apex_traces.specs.Arrows.{tail_at, tail_of, arrow_id}
use Rattle.apex_moments.specs.Moments.{with_cells}
use Rattle.apex_moments.specs.Terms.{Notice}
use Rattle.apex_traces.specs.Tracks.{bare_cells}
use Rattle.apex_moments.proofs.Places.{text_next}
use Rattle.apex_traces.proofs.arrows.add_tails.Goals as goal

pub loop-place-preserved : goal.loop-place-preserved
loop-place-preserved g c =
    let after = with_cells (bare_cells (g.S.Store.roster c.args.store.now)) in
    let notices = c.args.notices.now in
    let place = c.loop-place.place in
    let at = c.loop-place.invariant in
    let notice = c.index-notices-place.result in
    let within : place < length notices = omega (arith, at.end, c.loop-place-test.true) in
    let here : slice_get notices place ≡ Some notice = slice_get_read notices (length notices) place notice refl within c.index-notices-place.is in
    record {
      end = at.end;
      text = text_next (tail_at c.args.caller.now c.args.begun.now after c.args.number notices) place _ _ _ at.text
          ((rw c.arrow_id-id.ensures at c.add_tail_of.ensures.text)
          ∙ ap (λ (n : Option Notice). c.loop-place.piece.items ++ tail_of c.args.caller.now c.args.begun.now after (arrow_id c.args.number place) n) (sym here));
      short = omega (arith, at.short, c.add_tail_of.ensures.short);
    }
