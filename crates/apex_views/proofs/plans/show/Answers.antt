-- The fault of the drawing comes first, and then that of the plan.
use Rattle.apex_console.specs.Faults.{fault_in}
use Rattle.apex_views.proofs.plans.show.Goals as goal

pub returns : goal.returns
returns g c = λ picture departure styled.
    (fault_in c.draw_plan-shown.result, c.draw_plan-shown.ensures picture departure styled, c.first_fault.ensures)
