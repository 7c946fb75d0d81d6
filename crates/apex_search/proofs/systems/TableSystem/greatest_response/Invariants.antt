use Rattle.std.proofs.Common.{◌≡◌, ◌-◌, ◌^◌}
use Rattle.apex_explore.specs.Searches.{room_of}
use Rattle.apex_search.specs.Steps.{Searched}
use Rattle.apex_search.specs.Worst.{responding}
use Rattle.apex_search.proofs.Responses.{IsRising}
use Rattle.apex_search.proofs.systems.TableSystem.greatest_response.Given as goal

abbrev pub invariant-loop-found : goal.invariant-loop-found
invariant-loop-found g l =
    (system : Searched) → l.fn.self ≡ responding system l.process 0 → IsRising system l.self l.process l.least (room_of l.fn.search) l.search l.found

abbrev pub decreases-loop-found : goal.decreases-loop-found
decreases-loop-found g l = 2 ^ 33 - l.least
