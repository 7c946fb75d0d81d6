-- The bytes that went through the page are a prefix of the lines.
use Rattle.std.proofs.Common.{[], ◌∷◌, ◌++◌, ap, sym, ◌∙◌, append_assoc, append-nil, arith}
use Rattle.std.proofs.lemmas.List.Elements.{All-rest}
use Rattle.std.proofs.lemmas.Result.{on_err_weaker}
use Rattle.apex_calls.specs.Lines.{IsPrintable}
use Rattle.apex_history.proofs.Outcomes.{OnErr-always}
use Rattle.apex_history.proofs.Passing.{beginning_of_lines, passes_line, passes_then}
use Rattle.apex_history.proofs.printing.print_history.Goals as goal

pub loop-entry-preserved : goal.loop-entry-preserved
loop-entry-preserved g c =
    let at = c.loop-entry.invariant in
    let before = c.loop-entry.yielded in
    let entry = c.in-Some.entry in
    let after = c.next.new.self in
    record {
      split = at.split ∙ ap (λ l. before ++ l) c.in-Some.ensures.steps ∙ sym (append_assoc before (entry ∷ []) after);
      printable = All-rest (IsPrintable c.args.table.now) entry after c.loop-entry.entry-iterator c.in-Some.ensures.steps at.printable;
      lines = passes_line _ _ c.args.table.now before entry c.loop-entry.page c.loop-entry.lines.items _ at.lines c.put_parts.ensures.text;
      room = grind arith;
      failures = at.failures;
    }

pub loop-entry-preserved-in-Continue-1 : goal.loop-entry-preserved-in-Continue-1
loop-entry-preserved-in-Continue-1 g c =
    let at = c.loop-entry.invariant in
    let before = c.loop-entry.yielded in
    let entry = c.in-Some.entry in
    let after = c.next.new.self in
    record {
      split = at.split ∙ ap (λ l. before ++ l) c.in-Some.ensures.steps ∙ sym (append_assoc before (entry ∷ []) after);
      printable = All-rest (IsPrintable c.args.table.now) entry after c.loop-entry.entry-iterator c.in-Some.ensures.steps at.printable;
      lines = rw (c.in_ok-pass_on.ensures.none, append-nil c.pass_on.new.page)
          (passes_then _ _ _ _ _ _ (passes_line _ _ c.args.table.now before entry c.loop-entry.page c.loop-entry.lines.items _ at.lines c.put_parts.ensures.text) c.in_ok-pass_on.ensures.ok);
      room = rw c.in_ok-pass_on.ensures.none (omega arith);
      failures = grind arith;
    }

pub returns-in_err-pass_on-clause-err : goal.returns-in_err-pass_on-clause-err
returns-in_err-pass_on-clause-err g c =
    let at = c.loop-entry.invariant in
    let before = c.loop-entry.yielded in
    let entry = c.in-Some.entry in
    let after = c.next.new.self in
    OnErr-always c.from_residual.result
    (beginning_of_lines _ _ _ c.args.table.now (before ++ entry ∷ []) after c.args.entries
    (c.loop-entry.page ++ c.put_parts.new.lines.items)
    (at.split ∙ ap (λ l. before ++ l) c.in-Some.ensures.steps ∙ sym (append_assoc before (entry ∷ []) after))
    (passes_line _ _ c.args.table.now before entry c.loop-entry.page c.loop-entry.lines.items _ at.lines c.put_parts.ensures.text)
    c.in_err-pass_on.ensures.err)

pub returns-clause-err : goal.returns-clause-err
returns-clause-err g c =
    let at = c.loop-entry.invariant in
    on_err_weaker c.hand_on.result
    (beginning_of_lines _ _ _ c.args.table.now c.loop-entry.yielded c.loop-entry.entry-iterator c.args.entries
    (c.loop-entry.page ++ c.loop-entry.lines.items) at.split at.lines)
    c.hand_on.ensures.err
