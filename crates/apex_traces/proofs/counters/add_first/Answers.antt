-- There is no count before the first one.
use Rattle.std.proofs.Common.{◌≡◌, ◌∙◌, None, Some, refl, sym}
use Rattle.std.specs.Prelude.{slice_get}
use Rattle.apex_traces.specs.Counters.{object_name}
use Rattle.apex_traces.proofs.Counted.{count_changed}
use Rattle.apex_traces.proofs.counters.add_first.Goals as goal

pub returns-in-Some-clause-text : goal.returns-in-Some-clause-text
returns-in-Some-clause-text c =
    let found : slice_get c.args.first.now c.args.place ≡ Some c.in-Some.count =
    sym (rw c.from.ensures at c.count_at.ensures) ∙ c.in-Some.is in
    rw found (count_changed c.args.table.now 0 c.args.kind c.args.place None c.in-Some.count c.args.piece.now.items
    (object_name c.args.table.now c.args.kind c.args.place) _ refl refl c.add_changed.ensures.text)
