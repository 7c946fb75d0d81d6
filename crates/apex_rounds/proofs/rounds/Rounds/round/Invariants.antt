use Rattle.apex_rounds.proofs.Parts.{IsInRound}
use Rattle.apex_rounds.proofs.rounds.Rounds.round.Given as goal

abbrev pub invariant-loop-number : goal.invariant-loop-number
invariant-loop-number g l = IsInRound l.fn.self l.self l.number l.any
