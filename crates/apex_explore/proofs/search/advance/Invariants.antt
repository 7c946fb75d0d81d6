use Rattle.std.proofs.Common.{◌≡◌, ◌+◌}
use Rattle.apex_explore.specs.Levels.{IsAt}
use Rattle.apex_states.specs.Lists.{AllAre}
use Rattle.apex_explore.specs.Systems.{step_within}
use Rattle.apex_explore.proofs.search.advance.Given as goal

abbrev pub invariant-loop-made : goal.invariant-loop-made
invariant-loop-made g l = record {
  level : IsAt (step_within (g.S.System.choice_count l.system) (g.S.System.step l.system)) (g.S.System.start l.system) l.states l.front;
  width : l.states.width ≡ l.initial.states.width;
  room : l.states.room ≡ l.initial.states.room;
  workspace : g.S.System.is_workspace l.system l.workspace;
  all : AllAre (g.S.System.is_state l.system) l.states.states;
  moved : l.front.at ≡ l.initial.front.at + l.made;
}
