use Rattle.apex_states.proofs.Numbering.{IsPairing}
use Rattle.apex_states.proofs.keeping.pair_all.Given as goal

abbrev pub invariant-loop-place : goal.invariant-loop-place
invariant-loop-place l = IsPairing l.lefts l.rights l.pairs.items l.place
