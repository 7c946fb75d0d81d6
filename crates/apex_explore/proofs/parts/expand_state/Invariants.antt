use Rattle.apex_explore.specs.Parts.{IsFilling}
use Rattle.apex_explore.specs.Systems.{step_within}
use Rattle.apex_explore.proofs.Finding.{IsFinding}
use Rattle.apex_explore.proofs.parts.expand_state.Given as goal

abbrev pub invariant-loop-choice : goal.invariant-loop-choice
invariant-loop-choice g l = record {
  finding : IsFinding (step_within (g.S.System.choice_count l.system) (g.S.System.step l.system)) l.place l.state l.initial.finds l.finds l.choice;
  workspace : g.S.System.is_workspace l.system l.workspace;
  inside : g.S.System.is_in l.system l.workspace l.state;
  filling : IsFilling (g.S.System.word_count l.system) (g.S.System.is_state l.system) l.finds;
}
