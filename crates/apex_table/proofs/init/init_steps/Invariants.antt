use Rattle.std.proofs.Common.{◌≡◌, map, drop, length}
use Rattle.apex_words.specs.Outcome.{each}
use Rattle.apex_table.specs.Init.{next_init_step, init_steps}
use Rattle.apex_table.proofs.init.init_steps.Given as goal

abbrev pub invariant-loop-text : goal.invariant-loop-text
invariant-loop-text l = record {
  read :
      each (next_init_step l.names) l.steps.items (map (λ t. t.now) (drop l.text-index l.texts))
      ≡ init_steps l.names (map (λ t. t.now) l.texts);
  count : length l.steps.items ≡ l.text-index;
}
