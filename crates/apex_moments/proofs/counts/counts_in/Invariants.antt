-- The counts so far.
use Rattle.std.proofs.Common.{◌≡◌}
use Rattle.arrayvec.specs.ArrayVec.{array_vec_len}
use Rattle.apex_moments.specs.Counts.{count_of, object_count}
use Rattle.apex_moments.specs.Places.{of_places}
use Rattle.apex_moments.proofs.counts.counts_in.Given as goal

abbrev pub invariant-loop-place : goal.invariant-loop-place
invariant-loop-place l = record {
  end : l.place-end ≡ object_count l.table l.kind;
  many : array_vec_len l.counts ≡ l.place;
  items : l.counts.items ≡ of_places (count_of l.objects l.kind) l.place;
}
