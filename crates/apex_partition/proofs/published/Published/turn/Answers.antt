use Rattle.std.proofs.Common.{ap}
use Rattle.apex_partition.specs.Headline.{PartitionState}
use Rattle.apex_partition.proofs.Latest.{turn_adds, turn_entry}
use Rattle.apex_partition.proofs.published.Published.turn.Goals as goal

pub record_latest-receipt-requires-clause-latest : goal.record_latest-receipt-requires-clause-latest
record_latest-receipt-requires-clause-latest g c =
    let old = c.self.inside.partition in
    let added = ap (λ (k : PartitionState). k.machine.history) c.in_default.ensures.done in (
      turn_entry old.table old.machine c.seat.inside.core,
      rw (c.self.invariant.1, c.seat.invariant.0, added) (turn_adds old.table old.machine c.seat.inside.core),
    )
