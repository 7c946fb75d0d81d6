use Rattle.std.proofs.Common.{◌≡◌}
use Rattle.apex_states.specs.Lists.{AllAre}
use Rattle.apex_explore.specs.Systems.{step_within}
use Rattle.apex_explore.proofs.Growth.{IsExpanding}
use Rattle.apex_explore.proofs.search.expand.Given as goal

abbrev pub invariant-loop-choice : goal.invariant-loop-choice
invariant-loop-choice g l = record {
  expanding : IsExpanding (step_within (g.S.System.choice_count l.system) (g.S.System.step l.system)) l.place l.initial.states.states l.initial.states.origins l.states.states l.states.origins l.choice;
  width : l.states.width ≡ l.initial.states.width;
  room : l.states.room ≡ l.initial.states.room;
  workspace : g.S.System.is_workspace l.system l.workspace;
  inside : g.S.System.is_in l.system l.workspace l.state;
  all : AllAre (g.S.System.is_state l.system) l.states.states;
}
