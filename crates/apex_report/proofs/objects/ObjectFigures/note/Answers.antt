use Rattle.std.proofs.Common.{sym, ◌∙◌}
use Rattle.apex_report.proofs.UnconcernedObjects.{object_kept}
use Rattle.apex_report.proofs.objects.ObjectFigures.note.Goals as goal

pub returns-else-is_concerned : goal.returns-else-is_concerned
returns-else-is_concerned c =
    object_kept c.args.entry.now c.args.wakings.now c.args.processes.now c.args.self.now c.requires.level
    (sym c.is_concerned.ensures ∙ c.if-is_concerned.false)
