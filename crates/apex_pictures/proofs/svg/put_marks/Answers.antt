-- The parts follow one another; the cells have the width of the entry's column.
use Rattle.std.proofs.Common.{◌≡◌, ◌∙◌, ap}
use Rattle.std.proofs.lemmas.Result.{on_ok_weaker}
use Rattle.apex_moments.specs.Terms.{Entry}
use Rattle.apex_pictures.specs.Svg.{column_width}
use Rattle.apex_pictures.proofs.Joined.{more}
use Rattle.apex_pictures.proofs.svg.put_marks.Goals as goal

pub returns : goal.returns
returns c =
    let frame = c.args.frame.now in
    let entry = c.args.entry.now in
    let width : c.width_of.result ≡ column_width frame entry.number =
    c.width_of.ensures ∙ ap (λ (e : Entry). column_width frame e.number) c.entry.view_is in
    let cells = rw width at c.in_ok-put_cells.ensures in
    let called = more _ _ _ _ _ c.in_ok-put_time.ensures c.in_ok-put_call_at.ensures in
    let dashed = more _ _ _ _ _ (more _ _ _ _ _ called cells) c.in_ok-put_dashes.ensures in
    let ringed = more _ _ _ _ _ dashed c.in_ok-put_ring.ensures in
    on_ok_weaker c.put_wedges.result (λ put. more _ _ _ _ _ ringed put) c.put_wedges.ensures
