-- The processes of the cores so far.
use Rattle.std.proofs.Common.{◌≡◌, ◌≤◌}
use Rattle.arrayvec.specs.ArrayVec.{array_vec_len}
use Rattle.apex_machine.specs.processes.Running.{chosen}
use Rattle.apex_steps.specs.Texts.{on_cores}
use Rattle.apex_steps.proofs.busy.running_in.Given as goal

abbrev pub invariant-loop-number : goal.invariant-loop-number
invariant-loop-number g l = record {
  running : l.running.items ≡ on_cores (chosen l.kernel.machine.roster) l.number;
  few : array_vec_len l.running ≤ l.number;
}
