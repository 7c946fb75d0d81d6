-- No name so far is longer.
use Rattle.std.proofs.Common.{◌≡◌, ℕ, ◌<◌, ◌≤◌, length}
use Rattle.apex_machine.specs.text.Texts.{process_name}
use Rattle.apex_types.specs.declared.limits.TheConstants.{MOST_NAME}
use Rattle.apex_pictures.proofs.frames.longest_name.Given as goal

abbrev pub invariant-loop-place : goal.invariant-loop-place
invariant-loop-place l = record {
  end : l.place-end ≡ length l.table.processes;
  longest : (p : ℕ) → p < l.place → length (process_name l.table p) ≤ l.longest;
  range : l.longest ≤ MOST_NAME;
}
