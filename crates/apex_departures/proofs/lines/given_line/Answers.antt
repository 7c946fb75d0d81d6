-- One line more is passed.
use Rattle.std.proofs.Common.{◌≡◌, ◌∙◌, ◌∷◌, ◌+◌, Some, arith, rules}
use Rattle.apex_departures.specs.Lines.{line_parts, more_behind}
use Rattle.apex_departures.proofs.OnParts.{part_step, place_step}
use Rattle.apex_departures.proofs.lines.given_line.Goals as goal

pub loop-rest-preserved : goal.loop-rest-preserved
loop-rest-preserved c =
    let comments = c.args.comments in
    let left = c.loop-rest.left.now in
    let line = c.next_line.result.0.now in
    let rest = c.in-Some.rest.now in
    let parted : line_parts left ≡ line ∷ line_parts rest = search rules in
    let less : more_behind comments line c.loop-rest.more ≡ Some c.in-Some-more_behind.fewer = search rules in
    let (p, number, place) = c.loop-rest.invariant.passed in
    record {
      passed = (
        p + 1,
        omega (arith, number, c.saturating_add-number.ensures),
        omega (arith, place, place_step comments left line rest parted c.loop-rest.more c.in-Some-more_behind.fewer less),
      );
      bytes = c.loop-rest.invariant.bytes ∙ part_step comments left line rest parted c.loop-rest.more c.in-Some-more_behind.fewer less;
    }
