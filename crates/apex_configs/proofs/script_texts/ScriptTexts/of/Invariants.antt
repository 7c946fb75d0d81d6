use Rattle.std.proofs.Common.{◌≡◌, map, take}
use Rattle.apex_configs.proofs.script_texts.ScriptTexts.of.Given as goal

abbrev pub invariant-loop-text : goal.invariant-loop-text
invariant-loop-text l = record {
  so_far : l.texts.items ≡ map (λ t. t.now) (take l.text-index l.script);
}
