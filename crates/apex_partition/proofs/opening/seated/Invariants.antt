use Rattle.std.specs.Prelude.{◌≡◌, ◌++◌}
use Rattle.std.specs.Vec.Iter.{into_iter_items}
use Rattle.apex_receipts.specs.Receipts.{unspoken_cores}
use Rattle.apex_partition.proofs.opening.seated.Given as goal

abbrev pub invariant-loop-voice : goal.invariant-loop-voice
invariant-loop-voice g l = l.seats.items ++ into_iter_items l.voice-iterator ≡ unspoken_cores g.P.Naming.table.cores
