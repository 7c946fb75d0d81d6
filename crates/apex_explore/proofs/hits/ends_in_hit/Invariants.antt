use Rattle.apex_explore.specs.Systems.{step_within}
use Rattle.apex_explore.proofs.Hitting.{IsOn}
use Rattle.apex_explore.proofs.hits.ends_in_hit.Given as goal

abbrev pub invariant-loop-place : goal.invariant-loop-place
invariant-loop-place g l = record {
  so_far : IsOn (step_within (g.S.System.choice_count l.system) (g.S.System.step l.system)) l.initial.state l.path l.state l.place;
  known : g.S.System.is_state l.system l.state;
  workspace : g.S.System.is_workspace l.system l.workspace;
}
