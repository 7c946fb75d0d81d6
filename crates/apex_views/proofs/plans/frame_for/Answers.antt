-- The frame is that of the range, with the mark of the departure.
use Rattle.std.proofs.Common.{◌≡◌, ◌∙◌, ap, arith, inl, inr, length, subst, sym}
use Rattle.std.proofs.lemmas.Bool.{cases_lt, eqb-false, eqb-true}
use Rattle.std.specs.Prelude.{option_map}
use Rattle.apex_pictures.specs.Axes.{HasColumns}
use Rattle.apex_pictures.specs.Excerpts.{columns_of, drawn}
use Rattle.apex_pictures.specs.declared.Extent.{Extent}
use Rattle.apex_views.specs.Departures.{Marks, departure_behind, departure_said, extent_of}
use Rattle.apex_views.proofs.Drawn.{drawn_none}
use Rattle.apex_views.proofs.plans.frame_for.Goals as goal

pub returns : goal.returns
returns g c =
    let history = c.args.kernel.now.machine.history in
    let chart = c.args.chart.now in
    let many = length history in
    let departure = option_map departure_said c.args.departure.now in
    let range = c.in-Some.range in
    let made = c.in_ok-frame.ensures in
    let marked = c.in_ok-frame-2.ensures in
    let extent_is : c.extent_of-extent.result ≡ extent_of departure many chart.fold range =
    c.extent_of-extent.ensures ∙ ap (λ n. extent_of departure n chart.fold range) (c.len-entries.ensures.value ∙ ap length c.entries.ensures) in
    record {
      range = range;
      only = option_map (λ list. list.now) c.args.only;
      is = sym c.in-Some.ensures;
      named = c.requires;
      rows = rw marked.rows made.rows;
      shows = record {
        columns = rw marked.columns (subst (λ (e : Extent). HasColumns chart.axis e history c.in_ok-frame.frame.columns) extent_is
            made.columns);
        some = rw marked.columns (elim (cases_lt 0 (length c.in_ok-frame.frame.columns.drawn.items)) [
          | inl some ↦ some
          | inr none ↦ absurd (eqb-false _ _ (sym c.is_empty.ensures ∙ c.if-is_empty.false) (ap length c.as_slice.ensures.value ∙ omega (arith, none)))
        ]);
        room = marked.room made.room;
        mark = subst (λ (e : Extent). Marks (departure_behind e.last many departure) c.in_ok-frame-2.frame.mark) extent_is
            (rw (c.len-entries.ensures.value, c.entries.ensures) at marked.mark);
      };
    }

-- no column is drawn, so no entry of the window has one
pub returns-then-is_empty : goal.returns-then-is_empty
returns-then-is_empty g c =
    let history = c.args.kernel.now.machine.history in
    let fold = c.args.chart.now.fold in
    let departure = option_map departure_said c.args.departure.now in
    let range = c.in-Some.range in
    let asked = extent_of departure (length history) fold range in
    let extent_is : c.extent_of-extent.result ≡ asked =
    c.extent_of-extent.ensures ∙ ap (λ n. extent_of departure n fold range) (c.len-entries.ensures.value ∙ ap length c.entries.ensures) in
    let drawn_is : c.in_ok-frame.frame.columns.drawn.items ≡ drawn asked history =
    c.in_ok-frame.ensures.columns.drawn_is ∙ ap (λ (e : Extent). drawn e history) extent_is in
    let none : length c.in_ok-frame.frame.columns.drawn.items ≡ 0 =
    ap length (sym c.as_slice.ensures.value) ∙ eqb-true _ _ (sym c.is_empty.ensures ∙ c.if-is_empty.true) in
    rw (sym c.in-Some.ensures)
    (drawn_none asked.side (columns_of asked history) (ap length (sym drawn_is) ∙ none))
