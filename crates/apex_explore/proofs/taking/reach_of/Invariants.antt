use Rattle.apex_explore.specs.Systems.{step_within}
use Rattle.apex_explore.proofs.Joining.{IsReaching}
use Rattle.apex_explore.proofs.taking.reach_of.Given as goal

abbrev pub invariant-loop-place : goal.invariant-loop-place
invariant-loop-place g l = IsReaching (step_within (g.S.System.choice_count l.system) (g.S.System.step l.system)) (g.S.System.is_state l.system) l.states l.fn.front.at l.limit l.expansions l.place l.end
