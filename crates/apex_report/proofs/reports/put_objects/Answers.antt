use Rattle.std.proofs.Common.{[], append_assoc, arith}
use Rattle.std.proofs.lemmas.Grind.{common_steps}
use Rattle.apex_report.specs.Objects.{object_figures}
use Rattle.apex_report.proofs.ObjectGrowth.{queues_more}
use Rattle.apex_report.proofs.reports.put_objects.Goals as goal

pub loop-place-preserved : goal.loop-place-preserved
loop-place-preserved c =
    rw (queues_more (object_figures c.args.table.now []) c.args.kind c.loop-place.place) (grind (arith, common_steps, append_assoc))
