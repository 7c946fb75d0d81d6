use Rattle.apex_explore.specs.Systems.{step_within}
use Rattle.apex_explore.proofs.Weaker.{Weakens-refl}
use Rattle.apex_explore.proofs.search.explore.Goals as goal

pub go_on-answer-requires-clause-searched : goal.go_on-answer-requires-clause-searched
go_on-answer-requires-clause-searched g c =
    let step = step_within (g.S.System.choice_count c.args.system.now) (g.S.System.step c.args.system.now) in
    (step, Weakens-refl step, c.in_ok-search.ensures.searched)

pub returns : goal.returns
returns g c = rw c.in_ok-search.ensures.room at c.go_on-answer.ensures.says
