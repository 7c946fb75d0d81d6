use Rattle.std.proofs.Common.{◌≡◌, ◌+◌, length}
use Rattle.apex_partition.specs.Seats.{AreSeatsFrom}
use Rattle.apex_cores_trials.proofs.closings.are_seats.Given as goal

-- if the rest are the seats from this core on, then all are those from core 0 on
abbrev pub invariant-loop-seat : goal.invariant-loop-seat
invariant-loop-seat g l = (AreSeatsFrom l.core l.rest → AreSeatsFrom 0 l.fn.seats) × (l.core + length l.rest ≡ length l.fn.seats)

abbrev pub decreases-loop-seat : goal.decreases-loop-seat
decreases-loop-seat g l = length l.rest
