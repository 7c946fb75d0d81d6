-- The members so far are behind the line.
use Rattle.std.proofs.Common.{◌≡◌, ◌+◌, ◌≤◌, ◌++◌, flat_map, take}
use Rattle.std.specs.Prelude.{sum_by}
use Rattle.arrayvec.specs.ArrayVec.{array_vec_len}
use Rattle.apex_report.specs.Members.{room_of, text_of}
use Rattle.apex_report.proofs.members.put_members.Given as goal

abbrev pub invariant-loop-member : goal.invariant-loop-member
invariant-loop-member l = record {
  text : l.line.items ≡ l.fn.line.items ++ flat_map (text_of l.form) (take l.member-index l.members);
  short : array_vec_len l.line ≤ array_vec_len l.fn.line + sum_by room_of (take l.member-index l.members);
}
