use Rattle.std.specs.Prelude.{◌≡◌, length}
use Rattle.std.specs.List.{AllByRecursion}
use Rattle.std.specs.Vec.Iter.{into_iter_items, into_iter_len}
use Rattle.apex_receipts.specs.Receipts.{Spoken}
use Rattle.apex_partition.specs.Seats.{IsSettled}
use Rattle.apex_partition.proofs.published.Published.settle_seats.Given as goal

abbrev pub invariant-loop-seat : goal.invariant-loop-seat
invariant-loop-seat g l =
    let settled = AllByRecursion (λ (s : Spoken). IsSettled g.P.Naming.table l.initial.self.machine.history s.who s) in
    (l.self ≡ l.initial.self)
    × (into_iter_len l.seat-iterator ≡ length (into_iter_items l.seat-iterator))
    × (settled (into_iter_items l.seat-iterator) → settled (into_iter_items l.initial.seat-iterator))
