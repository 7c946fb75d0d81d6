use Rattle.apex_explore.specs.Parts.{Finds, IsFilling}
use Rattle.apex_explore.specs.Systems.{step_within}
use Rattle.apex_explore.proofs.parts.expand_batch.Given as goal

abbrev pub invariant-loop-at : goal.invariant-loop-at
invariant-loop-at g l = record {
  found : Finds (step_within (g.S.System.choice_count l.system) (g.S.System.step l.system)) l.batch l.at l.finds;
  workspace : g.S.System.is_workspace l.system l.workspace;
  filling : IsFilling (g.S.System.word_count l.system) (g.S.System.is_state l.system) l.finds;
}
