-- A heading for each core so far.
use Rattle.std.proofs.Common.{◌≡◌}
use Rattle.arrayvec.specs.ArrayVec.{array_vec_len}
use Rattle.apex_moments.specs.Places.{of_places}
use Rattle.apex_pictures.specs.Rows.{heading_at}
use Rattle.apex_pictures.proofs.rows.headings_at.Given as goal

abbrev pub invariant-loop-core : goal.invariant-loop-core
invariant-loop-core l = record {
  many : array_vec_len l.headings ≡ l.core;
  items : l.headings.items ≡ of_places (heading_at l.cores l.top) l.core;
}
