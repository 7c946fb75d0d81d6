use Rattle.std.proofs.Common.{◌∙◌}
use Rattle.apex_partition.proofs.Fronts.{some_case}
use Rattle.apex_partition.proofs.published.publish_latest.Goals as goal

pub returns-in-Some : goal.returns-in-Some
returns-in-Some g c = c.publish.ensures ∙ some_case _ _ _ _ c.in-Some.is c.requires.before
