-- The cells of the processes so far.
use Rattle.std.proofs.Common.{◌≡◌, length}
use Rattle.arrayvec.specs.ArrayVec.{array_vec_len}
use Rattle.apex_moments.specs.Moments.{cell_of, running_in}
use Rattle.apex_moments.specs.Places.{of_places}
use Rattle.apex_moments.proofs.moments.moment_of.Given as goal

abbrev pub invariant-loop-place : goal.invariant-loop-place
invariant-loop-place g l =
    let roster = g.S.Store.roster l.store in
    record {
      end : l.place-end ≡ length roster.records;
      many : array_vec_len l.cells ≡ l.place;
      running : l.running.items ≡ running_in roster;
      items : l.cells.items ≡ of_places (cell_of roster) l.place;
    }
