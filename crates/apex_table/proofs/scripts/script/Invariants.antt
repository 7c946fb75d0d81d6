use Rattle.std.proofs.Common.{◌≡◌, map, drop, length}
use Rattle.apex_types.specs.declared.calls.Origin.TheVariants.{Script}
use Rattle.apex_words.specs.Outcome.{each}
use Rattle.apex_table.specs.Steps.{step}
use Rattle.apex_table.specs.Scripts.{script}
use Rattle.apex_table.proofs.scripts.script.Given as goal

abbrev pub invariant-loop-text : goal.invariant-loop-text
invariant-loop-text l = record {
  read :
      each (λ before t. step l.at (Script l.process (length before)) l.names t) l.steps.items (map (λ t. t.now) (drop l.text-index l.texts))
      ≡ script l.at l.process l.names (map (λ t. t.now) l.texts);
  count : length l.steps.items ≡ l.text-index;
}
