-- A core for each process so far.
use Rattle.std.proofs.Common.{◌≡◌, ◌≤◌, length}
use Rattle.std.specs.Prelude.{option_map}
use Rattle.apex_types.specs.declared.limits.TheConstants.{MOST_PROCESSES}
use Rattle.arrayvec.specs.ArrayVec.{array_vec_len}
use Rattle.apex_moments.specs.Places.{of_places}
use Rattle.apex_pictures.specs.Rows.{core_of}
use Rattle.apex_pictures.proofs.rows.cores_of.Given as goal

abbrev pub invariant-loop-place : goal.invariant-loop-place
invariant-loop-place l = record {
  end : l.place-end ≡ length l.table.processes;
  few : l.place-end ≤ MOST_PROCESSES;
  many : array_vec_len l.cores ≡ l.place;
  items : l.cores.items ≡ of_places (core_of l.table (option_map (λ list. list.now) l.only)) l.place;
}
