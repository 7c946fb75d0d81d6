use Rattle.std.proofs.Common.{◌<◌, ap, length, arith}
use Rattle.std.proofs.lemmas.List.Edits.{map_over_more}
use Rattle.apex_report.specs.Steps.{process_after}
use Rattle.apex_report.proofs.reports.note_processes.Goals as goal

pub loop-figures-preserved : goal.loop-figures-preserved
loop-figures-preserved c =
    let at = c.loop-figures.figures-index in
    let within : at < length c.args.processes.now.items =
    omega (arith, c.loop-figures-test.true, ap length c.deref_mut-figures-items.ensures.value) in
    rw (c.note.ensures, ← c.figures-item.is)
    (map_over_more (process_after c.args.entry.now) c.args.processes.now.items c.loop-figures.figures-items at c.figures-item.result within
    c.loop-figures.invariant c.figures-item.is)
