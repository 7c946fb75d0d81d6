-- The line at a place is the separator, or is another line.
use Rattle.std.proofs.Common.{◌∙◌, ap, arith, length, length-drop, sym}
use Rattle.std.proofs.lemmas.List.{take_rest}
use Rattle.std.specs.Cmp.Lexicographic.{other_text, same_text}
use Rattle.apex_views.proofs.Parting.{line_parts, line_passed, none_parts}
use Rattle.apex_views.proofs.parts.parted.Goals as goal

pub returns-then-eq-clause-parts : goal.returns-then-eq-clause-parts
returns-then-eq-clause-parts c =
    line_parts c.args.text.now c.loop-length.start c.in-Some.length c.loop-length.invariant.lines c.in-Some.ensures.place
    (same_text _ _ (c.if-eq.ensures) ∙ c.as_slice.ensures)

pub loop-length-preserved : goal.loop-length-preserved
loop-length-preserved c =
    let text = c.args.text.now in
    let start = c.loop-length.start in
    record {
      within = omega (arith, c.in-Some.ensures.within, ap length (take_rest text start), length-drop start text);
      lines = line_passed text start c.in-Some.length c.loop-length.invariant.lines c.in-Some.ensures.place
          (λ same. other_text _ _ (c.if-eq.ensures) (same ∙ sym c.as_slice.ensures));
    }

pub returns-clause-none : goal.returns-clause-none
returns-clause-none c = λ none. none_parts c.args.text.now c.loop-length.start c.loop-length.invariant.lines (sym c.place_of_feed.ensures.place ∙ c.in_default.is)
