-- The processes so far are behind the lines.
use Rattle.std.proofs.Common.{◌≡◌, ◌+◌, ◌*◌, ◌≤◌, ◌++◌, take}
use Rattle.std.specs.Prelude.{flat_map}
use Rattle.arrayvec.specs.ArrayVec.{array_vec_len}
use Rattle.apex_steps.specs.Texts.{running_text}
use Rattle.apex_steps.proofs.sayings.put_all_running.Given as goal

abbrev pub invariant-loop-process : goal.invariant-loop-process
invariant-loop-process l = record {
  text : l.lines.items ≡ l.fn.lines.items ++ flat_map running_text (take l.process-index l.running);
  short : array_vec_len l.lines ≤ array_vec_len l.fn.lines + 21 * l.process-index;
}
