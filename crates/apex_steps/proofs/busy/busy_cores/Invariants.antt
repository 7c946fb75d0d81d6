-- The cores so far that have something to do.
use Rattle.std.proofs.Common.{◌≡◌, ◌≤◌}
use Rattle.arrayvec.specs.ArrayVec.{array_vec_len}
use Rattle.apex_machine.specs.Machine.{situation_of}
use Rattle.apex_steps.specs.Texts.{cores_that, has_something_to_do}
use Rattle.apex_steps.proofs.busy.busy_cores.Given as goal

abbrev pub invariant-loop-number : goal.invariant-loop-number
invariant-loop-number g l = record {
  busy : l.cores.items ≡ cores_that (has_something_to_do l.kernel.table (situation_of l.kernel.table l.kernel.machine)) l.number;
  few : array_vec_len l.cores ≤ l.number;
}
