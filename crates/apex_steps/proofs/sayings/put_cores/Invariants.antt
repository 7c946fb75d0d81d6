-- The numbers so far are behind the lines.
use Rattle.std.proofs.Common.{◌≡◌, ◌+◌, ◌*◌, ◌≤◌, ◌++◌, take}
use Rattle.std.specs.Prelude.{flat_map}
use Rattle.arrayvec.specs.ArrayVec.{array_vec_len}
use Rattle.apex_steps.specs.Texts.{number_behind}
use Rattle.apex_steps.proofs.sayings.put_cores.Given as goal

abbrev pub invariant-loop-core : goal.invariant-loop-core
invariant-loop-core l = record {
  text : l.lines.items ≡ l.fn.lines.items ++ flat_map number_behind (take l.core-index l.cores);
  short : array_vec_len l.lines ≤ array_vec_len l.fn.lines + 21 * l.core-index;
}
