-- The next entry widens the range if it is in the window.
use Rattle.std.proofs.Common.{List, [], ◌∷◌, ◌++◌, ◌∙◌, Option, Some, ap, sym, append_assoc}
use Rattle.apex_showings.specs.Windows.{widened}
use Rattle.apex_showings.specs.declared.windows.EntryRange.{EntryRange}
use Rattle.apex_showings.proofs.Ranges.{range_more}
use Rattle.apex_showings.proofs.windows.Window.range_in.Goals as goal

pub loop-entry-preserved-then-has : goal.loop-entry-preserved-then-has
loop-entry-preserved-then-has g c =
    let at = c.loop-entry.invariant in
    let before = c.loop-entry.yielded in
    let entry = c.in-Some.entry in
    record {
      split = at.split ∙ ap (λ l. before ++ l) c.in-Some.ensures.steps ∙ sym (append_assoc before (entry ∷ []) c.next.new.self);
      range = ap Some (c.widened.ensures ∙ ap (λ (s : Option EntryRange). widened s entry.number) at.range)
          ∙ sym (range_more c.args.self before entry (sym c.has.ensures ∙ c.if-has.true));
    }
