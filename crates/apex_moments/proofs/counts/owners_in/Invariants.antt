-- The owners so far.
use Rattle.std.proofs.Common.{◌≡◌, length}
use Rattle.arrayvec.specs.ArrayVec.{array_vec_len}
use Rattle.apex_machine.specs.processes.Owners.{owner}
use Rattle.apex_moments.specs.Places.{of_places}
use Rattle.apex_moments.proofs.counts.owners_in.Given as goal

abbrev pub invariant-loop-place : goal.invariant-loop-place
invariant-loop-place g l = record {
  end : l.place-end ≡ length l.table.mutexes;
  many : array_vec_len l.owners ≡ l.place;
  items : l.owners.items ≡ of_places (owner (g.S.Store.roster l.store)) l.place;
}
