-- The names so far are before those that are left.
use Rattle.std.proofs.Common.{◌≡◌, length}
use Rattle.apex_tasks.specs.Names.{names_of}
use Rattle.apex_tasks.proofs.NameLists.{behind}
use Rattle.apex_tasks.proofs.names.read_names.Given as goal

abbrev pub invariant-loop-name : goal.invariant-loop-name
invariant-loop-name l = record {
  split : names_of l.text ≡ behind l.names.items (names_of l.left);
}

abbrev pub decreases-loop-name : goal.decreases-loop-name
decreases-loop-name l = length l.left
