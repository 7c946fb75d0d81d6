use Rattle.std.proofs.Common.{◌≡◌, ◌<◌, ap, length, arith, get_or}
use Rattle.std.proofs.lemmas.List.Edits.{map_over_more}
use Rattle.apex_report.specs.Steps.{service_after}
use Rattle.apex_report.proofs.Refused.{item_here, no_service}
use Rattle.apex_report.proofs.services.note_each.Goals as goal

pub loop-figures-preserved : goal.loop-figures-preserved
loop-figures-preserved c =
    let at = c.loop-figures.figures-index in
    let items = c.loop-figures.figures-items in
    let here = get_or items at no_service in
    let same : length items ≡ length c.deref_mut-figures-items.result.now = c.loop-figures.auto.figures-items in
    let inside : at < length items = omega (arith, c.loop-figures-test.true, same) in
    let within : at < length c.args.services.now.items =
    omega (arith, c.loop-figures-test.true, ap length c.deref_mut-figures-items.ensures.value) in
    rw c.note.ensures
    (map_over_more (service_after c.args.entry.now) c.args.services.now.items items at here within c.loop-figures.invariant
    (item_here items at no_service inside))
