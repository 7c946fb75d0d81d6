-- The first state is kept, unless there is no room.
use Rattle.std.proofs.Common.{ap}
use Rattle.apex_states.specs.States.{Reached}
use Rattle.apex_states.specs.declared.states.Origin.{Origin}
use Rattle.apex_explore.specs.Systems.{step_within}
use Rattle.apex_explore.proofs.Weaker.{searched_first}
use Rattle.apex_explore.proofs.searches.reached_first.Goals as goal

pub returns-in-Ok-clause-searched : goal.returns-in-Ok-clause-searched
returns-in-Ok-clause-searched g c =
    let step = step_within (g.S.System.choice_count c.args.system.now) (g.S.System.step c.args.system.now) in
    let origin : Origin = record { parent = 0; choice = 0 } in
    let states = ap (λ (s : Reached). s.states) c.in_ok-states.ensures in
    let origins = ap (λ (s : Reached). s.origins) c.in_ok-states.ensures in
    rw (← c.first.ensures.start) (searched_first step c.first.new.state c.in_ok-states.states origin c.in-Ok.field-0 c.keep.new.self states origins c.in-Ok.ensures)
