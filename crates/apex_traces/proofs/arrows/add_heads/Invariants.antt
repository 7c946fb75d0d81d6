-- The ends so far follow the text.
use Rattle.std.proofs.Common.{◌≡◌, ◌++◌, ◌+◌, ◌*◌, ◌≤◌, length}
use Rattle.arrayvec.specs.ArrayVec.{array_vec_len}
use Rattle.apex_machine.specs.text.Listing.{texts_of}
use Rattle.apex_traces.specs.Arrows.{head_at}
use Rattle.apex_moments.specs.Moments.{with_cells}
use Rattle.apex_traces.specs.Tracks.{bare_cells}
use Rattle.apex_traces.specs.declared.pieces.TheConstants.{ARROW}
use Rattle.apex_traces.proofs.arrows.add_heads.Given as goal

abbrev pub invariant-loop-place : goal.invariant-loop-place
invariant-loop-place g l = record {
  stamp : l.stamp ≡ l.time;
  end : l.place-end ≡ length l.notices;
  text : l.piece.items ≡ l.fn.piece.items ++ texts_of (head_at l.time (with_cells (bare_cells (g.S.Store.roster l.store))) l.number l.notices) l.place;
  short : array_vec_len l.piece ≤ array_vec_len l.fn.piece + ARROW * l.place;
}
