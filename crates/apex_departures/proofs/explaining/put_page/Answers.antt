-- The reason stands behind the lines.
use Rattle.std.proofs.Common.{◌≡◌, ◌∙◌, ◌++◌, ap, subst, sym, List, Option, ℕ}
use Rattle.std.specs.Prelude.{OnOk}
use Rattle.apex_machine.specs.Machine.{events_of}
use Rattle.apex_departures.specs.Explained.{EndsPage, HasEventIfAny, lines_in}
use Rattle.apex_departures.specs.Lines.{line_parts}
use Rattle.apex_departures.proofs.explaining.put_page.Goals as goal

pub put_reason_of-requires : goal.put_reason_of-requires
put_reason_of-requires g c =
    subst (λ (n : Option ℕ). HasEventIfAny (events_of c.args.kernel.machine.history) n) (sym c.shown_number.ensures) c.requires.shows

pub returns-in-Ok : goal.returns-in-Ok
returns-in-Ok g c =
    let table = c.args.kernel.table in
    let events = events_of c.args.kernel.machine.history in
    let lines = lines_in c.args.form c.args.comments (line_parts c.args.history.now) table c.args.verdict.now in
    let page = c.put_reason_of.new.page.items in
    let put : c.put_lines.new.page.items ≡ lines = (rw c.table.ensures at c.in-Ok.ensures) ∙ ap (λ (l : List ℕ). l ++ lines) c.requires.empty in
    subst (λ (n : Option ℕ). OnOk c.put_reason_of.result (EndsPage c.args.form table events n lines page)) c.shown_number.ensures
    (subst (λ (front : List ℕ). OnOk c.put_reason_of.result (EndsPage c.args.form table events c.shown_number.result front page)) put c.put_reason_of.ensures)
