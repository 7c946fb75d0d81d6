use Rattle.std.proofs.Common.{◌∙◌, not, sym, ap}
use Rattle.apex_pace.specs.Pace.{is_starting}
use Rattle.apex_choices.specs.Counts.{StoredPaced, paced_in}
use Rattle.apex_choices.proofs.Counted.{turned_is}
use Rattle.apex_choices.proofs.paced.PacedSituation.turn.Goals as goal

pub returns-clause-step : goal.returns-clause-step
returns-clause-step c =
    let before : StoredPaced = record { situation = c.self.inside.situation; counts = c.self.inside.counts } in
    let after : StoredPaced = record { situation = c.turn-2.new.self; counts = c.turn.new.self } in
    let starting = c.is_starting-counts.ensures ∙ ap (λ (p : StoredPaced). is_starting (paced_in p)) (sym c.self.view_is) in
    rw (← c.self.view_is) (turned_is c.args.table.now before after c.args.core (not c.is_starting-counts.result) c.turn-2.ensures.situation
    (ap not starting) c.turn.ensures.turns c.turn.ensures.worked)
