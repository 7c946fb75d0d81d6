use Rattle.std.proofs.Common.{ap, ◌∙◌}
use Rattle.apex_report.specs.Steps.{with_changes}
use Rattle.apex_report.proofs.processes.ProcessFigures.note_concerned.Goals as goal

pub returns : goal.returns
returns c = c.note_changes.ensures ∙ ap (with_changes c.args.entry.now) c.note_turn.ensures
