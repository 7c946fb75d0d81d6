-- The notices so far are behind the old text of the line, with at most NOTICE_ROOM bytes each.
use Rattle.std.proofs.Common.{◌≡◌, ◌+◌, ◌*◌, ◌≤◌, ◌++◌, take}
use Rattle.std.specs.Prelude.{flat_map}
use Rattle.arrayvec.specs.ArrayVec.{array_vec_len}
use Rattle.apex_calls.specs.Lines.{noticed_text}
use Rattle.apex_history.specs.declared.puts.TheConstants.{NOTICE_ROOM}
use Rattle.apex_history.proofs.puts.put_notices.Given as goal

abbrev pub invariant-loop-notice : goal.invariant-loop-notice
invariant-loop-notice l = record {
  text : l.line.items ≡ l.fn.line.items ++ flat_map noticed_text (take l.notice-index l.notices);
  short : array_vec_len l.line ≤ array_vec_len l.fn.line + NOTICE_ROOM * l.notice-index;
}
