-- The object of the next entry goes behind those before it, and what is held behind the last one goes out.
use Rattle.std.proofs.Common.{[], ◌∷◌, ◌++◌, ap, append_assoc, arith, sym, ◌∙◌}
use Rattle.std.proofs.lemmas.List.Elements.{All-rest}
use Rattle.std.proofs.lemmas.Result.{on_err_weaker}
use Rattle.apex_calls.specs.Lines.{IsPrintable}
use Rattle.apex_history.proofs.Outcomes.{OnErr-always}
use Rattle.apex_objects.proofs.ObjectsOf.{beginning_of_objects, beginning_with_object, passes_object}
use Rattle.apex_objects.proofs.histories.print_history_objects.Goals as goal

pub loop-entry-preserved : goal.loop-entry-preserved
loop-entry-preserved g c =
    let at = c.loop-entry.invariant in
    let before = c.loop-entry.yielded in
    let entry = c.in-Some.entry in
    let after = c.next.new.self in
    record {
      split = at.split ∙ ap (λ l. before ++ l) c.in-Some.ensures.steps ∙ sym (append_assoc before (entry ∷ []) after);
      printable = All-rest (IsPrintable c.args.table.now) entry after c.loop-entry.entry-iterator c.in-Some.ensures.steps at.printable;
      room = c.in_ok-make_room.ensures.room;
      lines = passes_object _ _ _ c.args.table.now before c.loop-entry.lines.items at.lines entry _ (rw c.put_entry_object.ensures.text at c.in_ok-make_room.ensures.ok);
      failures = grind (arith, at.failures, c.in_ok-make_room.ensures.counted);
    }

pub returns-in_err-make_room-clause-err : goal.returns-in_err-make_room-clause-err
returns-in_err-make_room-clause-err g c =
    let at = c.loop-entry.invariant in
    let before = c.loop-entry.yielded in
    let entry = c.in-Some.entry in
    let after = c.next.new.self in
    OnErr-always c.from_residual.result
    (beginning_with_object _ _ _ c.args.table.now before c.loop-entry.lines.items at.lines entry after c.args.entries
    (at.split ∙ ap (λ l. before ++ l) c.in-Some.ensures.steps ∙ sym (append_assoc before (entry ∷ []) after))
    (rw c.put_entry_object.ensures.text at c.in_err-make_room.ensures.err))

pub returns-clause-err : goal.returns-clause-err
returns-clause-err g c =
    let at = c.loop-entry.invariant in
    on_err_weaker c.hand_on.result
    (beginning_of_objects _ _ _ c.args.table.now c.loop-entry.yielded c.loop-entry.lines.items at.lines c.loop-entry.entry-iterator c.args.entries at.split)
    c.hand_on.ensures.err
