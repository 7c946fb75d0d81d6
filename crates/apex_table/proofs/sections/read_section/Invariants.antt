use Rattle.std.proofs.Common.{◌≡◌, [], map, drop, length}
use Rattle.toml.specs.View.{view}
use Rattle.apex_words.specs.Outcome.{each}
use Rattle.apex_table.specs.Sections.{head_of, kind_of, next_entry}
use Rattle.apex_table.proofs.sections.read_section.Given as goal

abbrev pub invariant-loop-item : goal.invariant-loop-item
invariant-loop-item g l =
    let next = next_entry (kind_of (head_of l.head) g.K.Entry.HasName.name_of (g.K.EntryKind.read l.kind)) in
    record {
      read : each next l.entries.items (map view (drop l.item-index l.items)) ≡ each next [] (map view l.items);
      count : length l.entries.items ≡ l.item-index;
    }
