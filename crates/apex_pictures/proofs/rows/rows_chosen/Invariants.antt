-- Whether each process so far has a row.
use Rattle.std.proofs.Common.{◌≡◌, length}
use Rattle.std.specs.Prelude.{option_map}
use Rattle.arrayvec.specs.ArrayVec.{array_vec_len}
use Rattle.apex_moments.specs.Places.{of_places}
use Rattle.apex_pictures.specs.Rows.{is_chosen}
use Rattle.apex_pictures.proofs.rows.rows_chosen.Given as goal

abbrev pub invariant-loop-place : goal.invariant-loop-place
invariant-loop-place l = record {
  end : l.place-end ≡ length l.table.processes;
  many : array_vec_len l.rows ≡ l.place;
  items : l.rows.items ≡ of_places (is_chosen (option_map (λ list. list.now) l.only)) l.place;
}
