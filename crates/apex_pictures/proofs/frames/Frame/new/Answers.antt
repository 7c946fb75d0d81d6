-- The frame has room for its columns, its rows and the labels.
use Rattle.std.proofs.Common.{◌+◌, ◌≤◌, arith, sym}
use Rattle.apex_pictures.proofs.Room.{headings_end, labels_end, rows_end}
use Rattle.apex_pictures.specs.Svg.{label_letters}
use Rattle.apex_pictures.proofs.frames.Frame.new.Goals as goal

pub returns-clause-room : goal.returns-clause-room
returns-clause-room g c =
    let table = c.table-table.result.now in
    let has = c.new-rows.ensures.has in
    record {
      columns = omega (arith, c.max.ensures, c.from.ensures);
      mark = λ mark none. cc;
      top = omega (arith, c.new-rows.ensures.top);
      rows = λ p shown.
          omega (arith, rows_end table _ _ c.lawful.ensures has p shown, c.new-rows.ensures.top, c.lines.ensures.value);
      headings = λ core known.
          omega (arith, headings_end table _ _ c.lawful.ensures has core known, c.new-rows.ensures.top, c.lines.ensures.value);
      key = omega arith;
    }

pub returns-clause-labels : goal.returns-clause-labels
returns-clause-labels g c = λ p shown.
    let table = c.table-table.result.now in
    let letters : label_letters table p ≤ c.longest_name.result + 3 =
    labels_end table _ _ c.lawful.ensures c.new-rows.ensures.has _ c.longest_name.ensures.longest p shown in
    rw (sym c.table-table.ensures) (omega (arith, letters))
