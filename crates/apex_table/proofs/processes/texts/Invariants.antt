use Rattle.std.proofs.Common.{◌≡◌, map, drop, length}
use Rattle.toml.specs.View.{view}
use Rattle.apex_words.specs.Outcome.{each}
use Rattle.apex_words.specs.Subjects.{at_step}
use Rattle.apex_table.specs.Keys.{text}
use Rattle.apex_table.specs.Processes.{texts}
use Rattle.apex_table.proofs.processes.texts.Given as goal

abbrev pub invariant-loop-item : goal.invariant-loop-item
invariant-loop-item l = record {
  read :
      each (λ before d. text (at_step l.at (length before)) d) (map (λ t. t.now) l.texts.items) (map view (drop l.item-index l.items))
      ≡ texts l.at (map view l.items);
  count : length l.texts.items ≡ l.item-index;
}
