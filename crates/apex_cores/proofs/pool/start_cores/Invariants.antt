use Rattle.std.specs.Prelude.{◌≡◌, ◌+◌, ◌≤◌, vec_len}
use Rattle.std.specs.Vec.{vec_capacity}
use Rattle.std.specs.Vec.Iter.{into_iter_items, into_iter_len}
use Rattle.apex_types.specs.declared.entries.Who.TheVariants.{Core}
use Rattle.apex_receipts.specs.Receipts.{unspoken}
use Rattle.apex_cores.specs.Starts.{HaveAgreed}
use Rattle.apex_cores.specs.Threads.{EachFrom, IsTaskOf}
use Rattle.apex_cores.proofs.pool.start_cores.Given as goal

abbrev pub invariant-loop-seat : goal.invariant-loop-seat
invariant-loop-seat g l = record {
  started : EachFrom (λ core handle. IsTaskOf l.run.plan.turns core handle.promise) 0 l.started.items;
  left : EachFrom (λ core seat. seat ≡ unspoken (Core core)) (vec_len l.started) (into_iter_items l.seat-iterator);
  count : vec_len l.started + into_iter_len l.seat-iterator ≡ vec_len l.fn.seats;
  asked : HaveAgreed g.S.Starts.asks 0 (vec_len l.started) l.fn.starts l.starts;
  room : vec_len l.fn.seats ≤ vec_capacity l.started;
}
