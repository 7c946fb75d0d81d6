-- The next count is the object's, and the next text follows those before it.
use Rattle.std.proofs.Common.{◌≡◌, ◌∙◌, ◌<◌, ℕ, Option, Some, ap, arith, get_or, length, refl, sym}
use Rattle.std.proofs.lemmas.Bool.{ne_eqb}
use Rattle.std.proofs.lemmas.Option.{slice_get-get_or}
use Rattle.std.specs.Prelude.{slice_get}
use Rattle.apex_traces.specs.Counters.{change_text, count_at, object_name}
use Rattle.apex_moments.specs.Counts.{count_of, counts_in, object_count}
use Rattle.apex_traces.proofs.Counted.{change_at, count_changed, count_still}
use Rattle.apex_moments.proofs.Places.{changed_at, kept_at, still_at, text_next}
use Rattle.apex_traces.proofs.counters.add_kind.Goals as goal
use Rattle.apex_traces.proofs.counters.add_kind.Goals.{then-counts-place, else-counts-place}

pub loop-place-preserved : goal.loop-place-preserved
loop-place-preserved c =
    let table = c.args.table.now in
    let objects = c.args.objects.now in
    let kind = c.args.kind in
    let f = count_of objects kind in
    let at = c.loop-place.invariant in
    let place = c.loop-place.place in
    let old = c.args.counts.now in
    let kept : place < length old = omega (arith, at.end, c.loop-place-test.true) in
    let within : place < object_count table kind = omega (arith, kept, c.requires.many) in
    let before = get_or c.loop-place.counts place 0 in
    let was : Some before ≡ slice_get old place =
    ap Some (kept_at f place old _ 0 kept at.counts) ∙ sym (slice_get-get_or old place 0 kept) in
    let count : c.count_of-count.result ≡ f place = c.count_of-count.ensures in
    let text = c.loop-place.piece.items in
    let change : change_text table c.args.time kind place (Some before) c.count_of-count.result
    ≡ count_at table c.args.time kind old (counts_in table objects kind) place =
    ap (λ (b : Option ℕ). change_text table c.args.time kind place b c.count_of-count.result) was
    ∙ ap (λ (n : ℕ). change_text table c.args.time kind place (slice_get old place) n) count
    ∙ change_at table c.args.time kind objects (slice_get old place) place within in
    elim c.if-counts-place.branch [
      | then-counts-place w ↦ record {
        end = at.end;
        counts = changed_at f place old _ _ _ kept at.counts w.counts-is count;
        text = text_next (count_at table c.args.time kind old (counts_in table objects kind)) place _ _ _ at.text
            (rw (w.piece-is, ← change) (count_changed table c.args.time kind place (Some before) c.count_of-count.result text
            (object_name table kind place) _ (ne_eqb _ _ w.if-counts-place.true) refl w.add_changed.ensures.text));
        short = rw w.piece-is (omega (arith, at.short, w.add_changed.ensures.short));
      }
      | else-counts-place w ↦ record {
        end = at.end;
        counts = rw w.counts-is (still_at f place old _ 0 kept at.counts (w.if-counts-place.false ∙ count));
        text = text_next (count_at table c.args.time kind old (counts_in table objects kind)) place _ _ _ at.text
            (rw (w.piece-is, ← change) (count_still table c.args.time kind place before c.count_of-count.result text w.if-counts-place.false));
        short = rw w.piece-is (omega (arith, at.short));
      }
    ]
