-- The entries that are drawn are in order, and none is later than now.
use Rattle.std.proofs.Common.{◌≡◌, ◌∙◌, ◌-◌, ap, arith, length, subst, sym, List}
use Rattle.apex_pictures.specs.Excerpts.{cut, drawn}
use Rattle.apex_pictures.specs.declared.excerpts.Timed.{Timed}
use Rattle.apex_pictures.proofs.Times.{AreInOrder, drawn_in_order, last_before}
use Rattle.apex_pictures.proofs.columns.Columns.new.Goals as goal

pub places_of-requires-clause-rises : goal.places_of-requires-clause-rises
places_of-requires-clause-rises g c =
    let machine = c.args.kernel.now.machine in
    let extent = c.args.extent in
    let is : c.cut-cut.result.now ≡ drawn extent machine.history =
    c.cut-cut.ensures.value ∙ ap (cut extent.side) (c.as_slice.ensures.value ∙ c.in_ok-columns.ensures) in
    let order = drawn_in_order c.args.kernel.now.table c.holds.ensures.lawful machine c.holds.ensures.replays extent in
    let here = subst (λ (l : List Timed). AreInOrder l machine.roster.now) (sym is) order in
    here.rises

pub places_of-requires-clause-range : goal.places_of-requires-clause-range
places_of-requires-clause-range g c =
    let machine = c.args.kernel.now.machine in
    let extent = c.args.extent in
    let is : c.cut-cut.result.now ≡ drawn extent machine.history =
    c.cut-cut.ensures.value ∙ ap (cut extent.side) (c.as_slice.ensures.value ∙ c.in_ok-columns.ensures) in
    let order = drawn_in_order c.args.kernel.now.table c.holds.ensures.lawful machine c.holds.ensures.replays extent in
    let here = subst (λ (l : List Timed). AreInOrder l machine.roster.now) (sym is) order in
    omega (arith, last_before c.cut-cut.result.now machine.roster.now (length c.cut-cut.result.now - 1) here, c.holds.ensures.time)

pub behind_of-requires-clause-range : goal.behind_of-requires-clause-range
behind_of-requires-clause-range g c =
    let machine = c.args.kernel.now.machine in
    let extent = c.args.extent in
    let is : c.cut-cut.result.now ≡ drawn extent machine.history =
    c.cut-cut.ensures.value ∙ ap (cut extent.side) (c.as_slice.ensures.value ∙ c.in_ok-columns.ensures) in
    let order = drawn_in_order c.args.kernel.now.table c.holds.ensures.lawful machine c.holds.ensures.replays extent in
    let here = subst (λ (l : List Timed). AreInOrder l machine.roster.now) (sym is) order in
    omega (arith, last_before c.cut-cut.result.now machine.roster.now (length c.cut-cut.result.now - 1) here, c.holds.ensures.time)
