use Rattle.std.proofs.Common.{◌<◌, ap, length, arith}
use Rattle.std.proofs.lemmas.List.Edits.{map_over_more}
use Rattle.apex_report.specs.ObjectSteps.{object_after}
use Rattle.apex_report.proofs.reports.note_objects.Goals as goal

pub loop-figures-preserved : goal.loop-figures-preserved
loop-figures-preserved c =
    let at = c.loop-figures.figures-index in
    let within : at < length c.args.objects.now.items =
    omega (arith, c.loop-figures-test.true, ap length c.deref_mut-figures-items.ensures.value) in
    rw (c.note.ensures, ← c.figures-item.is)
    (map_over_more (object_after c.args.entry.now c.args.wakings.now c.args.processes.now) c.args.objects.now.items c.loop-figures.figures-items at c.figures-item.result within
    c.loop-figures.invariant c.figures-item.is)
