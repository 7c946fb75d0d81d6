-- What the trace shows gives the text of the column.
use Rattle.std.proofs.Common.{◌≡◌, ◌∙◌, ◌++◌, ap, append_assoc, sym}
use Rattle.apex_dispatch.specs.Situations.{situation_in}
use Rattle.apex_moments.specs.Moments.{moment_at}
use Rattle.apex_drawing.specs.Pictures.{lasting_of}
use Rattle.apex_traces.specs.Trace as trace
use Rattle.apex_traces.specs.Tracks.{bare}
use Rattle.apex_traces.proofs.TracksShown.{column_same}
use Rattle.apex_drawing.proofs.drawing.add_column.Goals as goal

pub returns-in-Trace-clause-drawn : goal.returns-in-Trace-clause-drawn
returns-in-Trace-clause-drawn g c = λ before follows.
    let table = c.args.table.now in
    let after = moment_at table (situation_in c.args.situation.now) in
    let lasting = lasting_of c.in-Trace.tick c.args.begun c.args.instant in
    let text = c.args.page.now.text.items in
    let columns = c.args.page.now.columns.items in
    let column = trace.column_text table lasting before c.args.entry.now after in
    let is : c.args.shown.now ≡ bare before = rw c.in-Trace.is at follows in
    rw c.in-Trace.is (ap (λ l. text ++ l) ((rw (is, c.lasting_of-lasting.ensures) at c.add_column.ensures.text)
    ∙ ap (λ l. columns ++ l) (column_same table lasting before c.args.entry.now after))
    ∙ sym (append_assoc text columns column))
