use Rattle.std.proofs.Common.{◌∙◌, ap}
use Rattle.apex_choices.specs.Counts.{paced_in}
use Rattle.apex_search.specs.Facts.{has_some}
use Rattle.apex_machine.specs.Situations.{deed}
use Rattle.apex_search.proofs.Stepping.{shown_is}
use Rattle.apex_search.proofs.steps.make.Goals as goal

pub returns-clause-asked : goal.returns-clause-asked
returns-clause-asked c =
    c.shows.ensures
    ∙ ap (has_some c.args.question.now)
    (shown_is (deed c.args.table.now (paced_in c.args.paced.now).situation c.args.event.now) _ _ _ _ _ _ c.make-deed.ensures.done)
