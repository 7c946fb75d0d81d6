-- The next line is the separator or is not.
use Rattle.std.proofs.Common.{◌≡◌, ◌∙◌, ◌∷◌, true, false, rules, sym}
use Rattle.std.specs.Str.{bytes_eq}
use Rattle.apex_check.specs.Texts.{separator}
use Rattle.apex_departures.specs.Lines.{line_parts}
use Rattle.apex_departures.proofs.OnParts.{behind_found, behind_passed}
use Rattle.apex_departures.proofs.lines.history_in.Goals as goal

pub returns-then-is_separator : goal.returns-then-is_separator
returns-then-is_separator c =
    let line = c.next_line.result.0.now in
    let parted : line_parts c.loop-rest.left.now ≡ line ∷ line_parts c.in-Some.rest.now = search rules in
    let found : bytes_eq line separator ≡ true = search rules in
    sym (behind_found c.loop-rest.left.now line c.in-Some.rest.now parted found) ∙ c.loop-rest.invariant

pub loop-rest-preserved : goal.loop-rest-preserved
loop-rest-preserved c =
    let line = c.next_line.result.0.now in
    let parted : line_parts c.loop-rest.left.now ≡ line ∷ line_parts c.in-Some.rest.now = search rules in
    let found : bytes_eq line separator ≡ false = search rules in
    sym (behind_passed c.loop-rest.left.now line c.in-Some.rest.now parted found) ∙ c.loop-rest.invariant
