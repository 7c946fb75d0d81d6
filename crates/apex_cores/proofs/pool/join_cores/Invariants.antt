use Rattle.std.specs.Prelude.{◌≡◌, ◌+◌, ◌≤◌, vec_len}
use Rattle.std.specs.Vec.{vec_capacity}
use Rattle.std.specs.Vec.Iter.{into_iter_items, into_iter_len}
use Rattle.apex_cores.specs.Threads.{EachFrom, HasWorked, IsTaskOf}
use Rattle.apex_cores.proofs.pool.join_cores.Given as goal

abbrev pub invariant-loop-handle : goal.invariant-loop-handle
invariant-loop-handle g l = record {
  worked : EachFrom (HasWorked l.turns) 0 l.seats.items;
  left : EachFrom (λ core handle. IsTaskOf l.turns core handle.promise) (vec_len l.seats) (into_iter_items l.handle-iterator);
  count : vec_len l.seats + into_iter_len l.handle-iterator ≡ vec_len l.fn.started;
  room : vec_len l.fn.started ≤ vec_capacity l.seats;
}
