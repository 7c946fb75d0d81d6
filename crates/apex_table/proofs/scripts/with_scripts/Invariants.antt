use Rattle.std.proofs.Common.{◌≡◌, drop, length}
use Rattle.apex_words.specs.Outcome.{each}
use Rattle.apex_table.specs.Scripts.{next_entry, with_scripts}
use Rattle.apex_table.proofs.scripts.with_scripts.Given as goal

abbrev pub invariant-loop-draft : goal.invariant-loop-draft
invariant-loop-draft l = record {
  read : each (next_entry l.names) l.processes.items (drop l.draft-index l.drafts) ≡ with_scripts l.names l.drafts;
  count : length l.processes.items ≡ l.draft-index;
}
