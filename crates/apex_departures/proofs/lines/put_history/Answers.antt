-- One line more is put.
use Rattle.std.proofs.Common.{◌≡◌, ◌∙◌, ◌∷◌, rules}
use Rattle.apex_departures.specs.Lines.{line_parts}
use Rattle.apex_departures.proofs.OnParts.{history_step}
use Rattle.apex_departures.proofs.lines.put_history.Goals as goal

pub loop-rest-preserved : goal.loop-rest-preserved
loop-rest-preserved c =
    let line = c.next_line.result.0.now in
    let parted : line_parts c.loop-rest.left.now ≡ line ∷ line_parts c.in-Some.rest.now = search rules in
    history_step c.args.comments c.loop-rest.left.now line c.in-Some.rest.now parted c.loop-rest.text.items c.put_kept.new.text.items c.in_ok-put_kept.ensures
    ∙ c.loop-rest.invariant
