use Rattle.std.proofs.Common.{◌≡◌, map, drop, length}
use Rattle.toml.specs.View.{view}
use Rattle.apex_words.specs.Outcome.{each}
use Rattle.apex_table.specs.Init.{next_text, texts}
use Rattle.apex_table.proofs.init.texts.Given as goal

abbrev pub invariant-loop-item : goal.invariant-loop-item
invariant-loop-item l = record {
  read : each next_text (map (λ t. t.now) l.texts.items) (map view (drop l.item-index l.items)) ≡ texts (map view l.items);
  count : length l.texts.items ≡ l.item-index;
}
