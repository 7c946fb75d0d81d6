-- A row for each process so far.
use Rattle.std.proofs.Common.{◌≡◌, length}
use Rattle.arrayvec.specs.ArrayVec.{array_vec_len}
use Rattle.apex_moments.specs.Places.{of_places}
use Rattle.apex_pictures.specs.Rows.{row_at}
use Rattle.apex_pictures.proofs.rows.rows_at.Given as goal

abbrev pub invariant-loop-place : goal.invariant-loop-place
invariant-loop-place l = record {
  end : l.place-end ≡ length l.cores;
  many : array_vec_len l.rows ≡ l.place;
  items : l.rows.items ≡ of_places (row_at l.cores l.top) l.place;
}
