use Rattle.std.proofs.Common.{◌≡◌, [], map}
use Rattle.std.specs.List.{range_with_len}
use Rattle.apex_machine.specs.services.Satisfied.{latest_call}
use Rattle.apex_report.proofs.waits.LatestCalls.none.Given as goal

abbrev pub invariant-loop-place : goal.invariant-loop-place
invariant-loop-place l = l.calls.items ≡ map (λ p. latest_call p []) (range_with_len 0 l.place)
