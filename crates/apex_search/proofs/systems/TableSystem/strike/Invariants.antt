use Rattle.apex_search.proofs.Striking.{IsStriking}
use Rattle.apex_search.proofs.systems.TableSystem.strike.Given as goal

abbrev pub invariant-loop-fact : goal.invariant-loop-fact
invariant-loop-fact l = IsStriking l.initial.self l.self l.path l.fact-index
