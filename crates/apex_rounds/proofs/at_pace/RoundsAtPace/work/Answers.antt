use Rattle.std.proofs.Common.{◌∙◌, ap}
use Rattle.apex_machine.specs.Situations.{Situation}
use Rattle.apex_rounds.proofs.at_pace.RoundsAtPace.work.Goals as goal

pub returns : goal.returns
returns g c = rw (← c.self.view_is) (c.work.ensures ∙ ap (λ (s : Situation). s.works c.args.core) c.situation.ensures)
