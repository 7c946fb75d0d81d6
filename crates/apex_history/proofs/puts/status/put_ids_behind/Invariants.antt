-- The ids so far are behind the earlier text of the line, with at most 11 bytes each.
use Rattle.std.proofs.Common.{◌≡◌, ◌+◌, ◌*◌, ◌≤◌, ◌++◌, take}
use Rattle.std.specs.Prelude.{flat_map}
use Rattle.arrayvec.specs.ArrayVec.{array_vec_len}
use Rattle.apex_machine.specs.text.Texts.{id_text}
use Rattle.apex_machine.specs.text.Status.{behind_text}
use Rattle.apex_history.proofs.puts.status.put_ids_behind.Given as goal

abbrev pub invariant-loop-id : goal.invariant-loop-id
invariant-loop-id l = record {
  text : l.line.items ≡ l.fn.line.items ++ flat_map (behind_text id_text) (take l.id-index l.ids);
  short : array_vec_len l.line ≤ array_vec_len l.fn.line + 11 * l.id-index;
}
