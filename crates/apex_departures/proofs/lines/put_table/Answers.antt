-- One line more is put, and is the separator or is not.
use Rattle.std.proofs.Common.{◌≡◌, ◌∙◌, ◌∷◌, true, false, rules, sym}
use Rattle.std.specs.Str.{bytes_eq}
use Rattle.apex_check.specs.Texts.{separator}
use Rattle.apex_departures.specs.Lines.{line_parts}
use Rattle.apex_departures.proofs.OnParts.{behind_found, behind_passed, text_found, text_passed}
use Rattle.apex_departures.proofs.lines.put_table.Goals as goal

pub returns-then-is_separator-clause-text : goal.returns-then-is_separator-clause-text
returns-then-is_separator-clause-text c = λ comments.
    let line = c.next_line.result.0.now in
    let parted : line_parts c.loop-rest.left.now ≡ line ∷ line_parts c.in-Some.rest.now = search rules in
    let found : bytes_eq line separator ≡ true = search rules in
    c.loop-rest.invariant.text comments
    ∙ text_found comments c.loop-rest.left.now line c.in-Some.rest.now parted c.loop-rest.text.items c.put_line.new.text.items found c.in_ok-put_line.ensures

pub returns-then-is_separator-clause-history : goal.returns-then-is_separator-clause-history
returns-then-is_separator-clause-history c =
    let line = c.next_line.result.0.now in
    let parted : line_parts c.loop-rest.left.now ≡ line ∷ line_parts c.in-Some.rest.now = search rules in
    let found : bytes_eq line separator ≡ true = search rules in
    sym (behind_found c.loop-rest.left.now line c.in-Some.rest.now parted found) ∙ c.loop-rest.invariant.history

pub loop-rest-preserved : goal.loop-rest-preserved
loop-rest-preserved c =
    let line = c.next_line.result.0.now in
    let parted : line_parts c.loop-rest.left.now ≡ line ∷ line_parts c.in-Some.rest.now = search rules in
    let found : bytes_eq line separator ≡ false = search rules in
    record {
      text = λ comments.
          c.loop-rest.invariant.text comments
          ∙ text_passed comments c.loop-rest.left.now line c.in-Some.rest.now parted c.loop-rest.text.items c.put_line.new.text.items found c.in_ok-put_line.ensures;
      history = sym (behind_passed c.loop-rest.left.now line c.in-Some.rest.now parted found) ∙ c.loop-rest.invariant.history;
    }
