-- The chosen processes of the cores so far.
use Rattle.std.proofs.Common.{◌≡◌}
use Rattle.arrayvec.specs.ArrayVec.{array_vec_len}
use Rattle.apex_machine.specs.processes.Running.{chosen}
use Rattle.apex_moments.specs.Places.{of_places}
use Rattle.apex_moments.proofs.moments.running_of.Given as goal

abbrev pub invariant-loop-core : goal.invariant-loop-core
invariant-loop-core g l = record {
  many : array_vec_len l.running ≡ l.core;
  items : l.running.items ≡ of_places (chosen (g.S.Store.roster l.store)) l.core;
}
