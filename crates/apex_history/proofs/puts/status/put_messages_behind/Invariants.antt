-- The messages so far are behind the earlier text of the line, with at most a comma and an argument's bytes each.
use Rattle.std.proofs.Common.{◌≡◌, ◌+◌, ◌*◌, ◌≤◌, ◌++◌, take}
use Rattle.std.specs.Prelude.{flat_map}
use Rattle.arrayvec.specs.ArrayVec.{array_vec_len}
use Rattle.apex_machine.specs.text.Texts.{message_text}
use Rattle.apex_machine.specs.text.Status.{behind_text}
use Rattle.apex_history.specs.declared.puts.TheConstants.{ARGUMENT_ROOM}
use Rattle.apex_history.proofs.puts.status.put_messages_behind.Given as goal

abbrev pub invariant-loop-message : goal.invariant-loop-message
invariant-loop-message l = record {
  text : l.line.items ≡ l.fn.line.items ++ flat_map (behind_text (message_text l.table)) (take l.message-index l.messages);
  short : array_vec_len l.line ≤ array_vec_len l.fn.line + (ARGUMENT_ROOM + 1) * l.message-index;
}
