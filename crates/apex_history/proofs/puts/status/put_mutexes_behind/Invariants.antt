-- The mutexes so far are behind the old text of the line, with at most 11 bytes each.
use Rattle.std.proofs.Common.{◌≡◌, ◌+◌, ◌*◌, ◌≤◌, ◌++◌, take}
use Rattle.std.specs.Prelude.{flat_map}
use Rattle.arrayvec.specs.ArrayVec.{array_vec_len}
use Rattle.apex_machine.specs.text.Status.{behind_text, held_text}
use Rattle.apex_history.proofs.puts.status.put_mutexes_behind.Given as goal

abbrev pub invariant-loop-holding : goal.invariant-loop-holding
invariant-loop-holding l = record {
  text : l.line.items ≡ l.fn.line.items ++ flat_map (behind_text held_text) (take l.holding-index l.held);
  short : array_vec_len l.line ≤ array_vec_len l.fn.line + 11 * l.holding-index;
}
