-- The events are those of the plan.
use Rattle.apex_views.proofs.plans.draw_plan.Goals as goal

pub returns : goal.returns
returns g c = λ picture departure styled. rw c.as_slice.ensures.value at c.draw_run.ensures picture departure styled
