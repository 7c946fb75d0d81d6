use Rattle.std.proofs.Common.{length}
use Rattle.apex_explore.specs.Searches.{room_of}
use Rattle.apex_search.proofs.Censuses.{IsCounting}
use Rattle.apex_search.proofs.systems.TableSystem.find_all.Given as goal

abbrev pub invariant-loop-found : goal.invariant-loop-found
invariant-loop-found g l = IsCounting l.fn.self l.self (room_of l.fn.search) l.search l.found.items

abbrev pub decreases-loop-found : goal.decreases-loop-found
decreases-loop-found g l = length l.self.question.facts
